-- The laws by subject: a plan judged and its point tested cone by cone, what that says of each cone, a plan of one cone, both sides with
-- one step and what that says of each cone, and that outcomes agree.
pub mod Plans
pub mod EachCone
pub mod OneCone
pub mod Sides
pub mod Costs
pub mod EachSide
pub mod Agree
