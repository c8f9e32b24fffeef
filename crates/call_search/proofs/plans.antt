-- Laws of the entries: what a call that is let through has, what it hands back, a plan of one cone, one step for both sides, and that
-- outcomes agree.
pub mod LetThrough
pub mod CommonStep
pub mod OneCone
pub mod PlanStep
pub mod Agree
