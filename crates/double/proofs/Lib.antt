-- By subject: the names of numbers, the fields of a pattern, the classes by exponent field, subnormals, a positive double as m * 2^k, a
-- double put together, NaN, finite, the size of a double, patterns and doubles there and back.
pub mod Numbers
pub mod Fields
pub mod Classes
pub mod Subnormals
pub mod Normalised
pub mod Made
pub mod NotNan
pub mod Finite
pub mod Sizes
pub mod RoundTrips
pub mod Agree
