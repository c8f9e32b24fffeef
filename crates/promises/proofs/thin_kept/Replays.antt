-- The theorems of specs/thin_kept/Replays: a replay's counts are functions of the edition and the records. Assumes nothing.
use mathlib.Core.Path.{◌≡◌, refl, sym, ap, ◌∙◌}
use mathlib.Core.List.{List}
use Prim.Native.Nat.{ℕ, zero, suc}
use native.Mathlib.Omega.{arith}
use lib.ListN.{length}
use Rattle.cone.specs.table.Table.{settle}
use Rattle.trace_layout.specs.Records.{Record}
use Rattle.trace_layout.specs.Traces.{edition_at, records_of}
use Rattle.trace_replay.specs.declared.call.Replayed.{Replayed}
use Rattle.trace_replay.specs.call.Replay.{same_count, differing, refuse, replay_of}
use Rattle.trace_thin.specs.call.Thin.{Left}
use Rattle.trace_thin.specs.call.Thins.{trace_in, Done}
use Rattle.trace_thin.proofs.call.Thins.{thins}
use Rattle.promises.specs.thin_kept.Replays.{Counted, ThinReplays}

abbrev counts_of : ℕ → List Record → Replayed
counts_of e rs = record { code = 0; records = length rs; same = same_count e rs; differ = length (differing e 0 rs) }

done_answer : (k : ℕ) (a : Replayed) (at rest : List ℕ) → a.code ≡ 0
    → (settle k (record { answer = a; offsets = rest }) (refuse at)).answer.code ≡ 0
    → (settle k (record { answer = a; offsets = rest }) (refuse at)).answer ≡ a
unfolding settle
done_answer zero a at rest z h = refl
done_answer (suc k) a at rest z h = absurd (omega (arith, h))

replayed : (bs at : List ℕ) → (replay_of bs at).answer.code ≡ 0 → (replay_of bs at).answer ≡ counts_of (edition_at bs) (records_of bs)
unfolding replay_of
replayed bs at on = done_answer _ (counts_of (edition_at bs) (records_of bs)) at _ refl on

pub counted : (bs at : List ℕ) (left : Left) → Done bs left → (replay_of (trace_in left) at).answer.code ≡ 0
    → Counted bs left (replay_of (trace_in left) at).answer
counted bs at left d on =
    let told = replayed (trace_in left) at on in
    record {
      records = ap (λ (x : Replayed). x.records) told ∙ sym d.kept;
      same =
          ap (λ (x : Replayed). x.same) told ∙ ap (λ (i : ℕ). same_count i (records_of (trace_in left))) d.edition
          ∙ ap (same_count (edition_at bs)) d.records;
      differ =
          ap (λ (x : Replayed). x.differ) told ∙ ap (λ (i : ℕ). length (differing i 0 (records_of (trace_in left)))) d.edition
          ∙ ap (λ (rs : List Record). length (differing (edition_at bs) 0 rs)) d.records;
    }

pub thin_replays : ThinReplays
thin_replays = record {
  apart = λ bs old at bytes done on. counted bs at _ (thins.done bs old bytes done) on;
  in_place = λ bs at bytes done on. counted bs at _ (thins.in_place bs bytes done) on;
}
