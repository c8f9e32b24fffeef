-- The way in: Promise, what document 01 asks of log. Below it, from the code upwards: LongDivision and ShortSeries, a mantissa's
-- logarithm (Mantissas), the sum with the turns (Sums), its rounding (Fractions), the errors together (Slack), the bound by m and k
-- (Bound), by the double (Doubles). Beside it, that the estimates are near enough to be checked: Roundings, NearQuotients, NearTerms.
pub mod LongDivision
pub mod Roundings
pub mod NearQuotients
pub mod ShortSeries
pub mod NearTerms
pub mod Mantissas
pub mod Sums
pub mod Fractions
pub mod Slack
pub mod Bound
pub mod Cases
pub mod Doubles
pub mod Promise
pub mod Agree
