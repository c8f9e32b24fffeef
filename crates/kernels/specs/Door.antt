-- The one door: what the four kernels compute, under the names that every cone's formula cites. Definitions only.
-- The square root is the plain one's definition; that the second is it is stated in Rattle.root.specs.table_root.SameRoot.
-- What is known of them stands with each: Rattle.root.specs.Nearest, Rattle.logarithm.specs.Bound, Rattle.exponential.specs.Bound,
-- proofs/PowfCases.
unfoldable pub use Rattle.root.specs.Steps.{sqrt_of}
unfoldable pub use Rattle.logarithm.specs.Steps.{log_of}
unfoldable pub use Rattle.exponential.specs.Steps.{exp_of}
unfoldable pub use Rattle.kernels.specs.Powf.{power_at, powf_of}
