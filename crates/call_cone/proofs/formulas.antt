-- Laws that the entries share: lengths of a call that is let through and of the rectified numbers; and that outcomes agree.
mod Lengths
mod Places
pub mod Agree
