-- 02, Order 9: "New traces are edition 3, with the rule (u32) after dim2 ..; cones from editions 1 and 2 are under rule 1"; "in a trace it
-- is no layout fault". What that says of a record that is read and of an append. Statements; proofs/rules/Traces has the proofs.
use Rattle.std.specs.Prelude.{ℕ, ◌<◌, ◌≡◌, true, List, take}
use Rattle.octets.specs.words.Words.{AllBelow}
use Rattle.trace_layout.specs.Traces.{count_at, edition_at, good_trace}
use Rattle.trace.specs.entries.Values.{Passed}
use Rattle.trace.specs.value.Recorded.{recorded_in}
use Rattle.trace.specs.kept.Appended.{trace_in}
use Rattle.trace.specs.kept.Made.{Call, called}
use Rattle.promises.specs.rules.Entries.{under}

-- "cones from editions 1 and 2 are under rule 1": every record of a good trace of an edition other than 3
abbrev pub OldUnderRule1 : Type 0
OldUnderRule1 =
    (bs : List ℕ) (i : ℕ) → good_trace bs ≡ true → (edition_at bs ≡ 3 → ⊥) → i < count_at bs → (recorded_in bs i).cone.rule ≡ 1

-- the call of `append` with its cone under a rule
abbrev pub call_under : ℕ → Call → Call
call_under rule a = record {
  cone = under rule a.cone;
  flag = a.flag;
  settings = a.settings;
  dz = a.dz;
  ds = a.ds;
  z = a.z;
  s = a.s;
  steps = a.steps;
}

-- every argument is a value of its type
abbrev pub PassedIn : Call → Type 0
PassedIn a = Passed a.cone a.flag a.settings a.dz a.ds a.z a.s a.steps

pub record Appends : Type 0 where
  -- the cone that is read back carries the rule that was appended, in every edition
  pub carried
      : (bs : List ℕ) (used : ℕ) (a : Call)
      → AllBelow 256 bs
      → PassedIn a
      → (called bs used a).answer.code ≡ 0
      → (recorded_in (trace_in (called bs used a)) (count_at (take used bs))).cone.rule ≡ a.cone.rule
  -- a cone of another rule than 1 would not be read back from editions 1 and 2: 9, whatever else is wrong
  pub refused
      : (bs : List ℕ) (used : ℕ) (a : Call)
      → (edition_at (take used bs) ≡ 3 → ⊥)
      → (a.cone.rule ≡ 1 → ⊥)
      → (called bs used a).answer.code ≡ 9
  -- in edition 3 an append has one answer under all rules, those that no cone may have included
  pub any_rule
      : (bs : List ℕ) (used : ℕ) (a : Call) (rule : ℕ)
      → AllBelow 256 bs
      → PassedIn a
      → PassedIn (call_under rule a)
      → edition_at (take used bs) ≡ 3
      → (called bs used (call_under rule a)).answer ≡ (called bs used a).answer
