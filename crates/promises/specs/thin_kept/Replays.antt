-- A thinned trace replayed: its counts are those of the kept records. 02, Orders 2 and 13. Statements; proofs/thin_kept/Replays has the
-- proofs.
use Rattle.std.specs.Prelude.{◌≡◌, List, ℕ, length}
use Rattle.octets.specs.words.Words.{AllBelow}
use Rattle.trace_layout.specs.Traces.{edition_at}
use Rattle.trace_replay.specs.declared.call.Replayed.{Replayed}
use Rattle.trace_replay.specs.call.Replay.{same_count, differing, replay_of}
use Rattle.trace_thin.specs.call.Thin.{Left, thin_of, thin_in_place_of}
use Rattle.trace_thin.specs.call.Thins.{trace_in, first_of_kind}

-- what a replay that has room tells of the trace that a thinning of bs left
pub record Counted (bs : List ℕ) (left : Left) (told : Replayed) : Type 0 where
  pub records : told.records ≡ left.answer.kept
  pub same : told.same ≡ same_count (edition_at bs) (first_of_kind bs)
  pub differ : told.differ ≡ length (differing (edition_at bs) 0 (first_of_kind bs))

pub record ThinReplays : Type 0 where
  pub apart : (bs old at : List ℕ) → AllBelow 256 bs → (thin_of bs old).answer.code ≡ 0
      → (replay_of (trace_in (thin_of bs old)) at).answer.code ≡ 0 → Counted bs (thin_of bs old) (replay_of (trace_in (thin_of bs old)) at).answer
  pub in_place : (bs at : List ℕ) → AllBelow 256 bs → (thin_in_place_of bs).answer.code ≡ 0
      → (replay_of (trace_in (thin_in_place_of bs)) at).answer.code ≡ 0
      → Counted bs (thin_in_place_of bs) (replay_of (trace_in (thin_in_place_of bs)) at).answer
