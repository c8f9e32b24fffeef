-- A record is the same exactly if its search gives what it holds (Exactly); the cone of a record has what a search reads of it (Cones); a
-- search that was made is run again with the same answer (Again); the theorems of a record (Replays), of one that is refused (Refused) and
-- of a trace that was made (Traces). A replay passes its edition's step outright (Outright).
pub mod Cones
pub mod Exactly
pub mod Again
pub mod Replays
pub mod Refused
pub mod Traces
pub mod Outright
