-- The contracts equate the calls with their definitions, of which `trace_thin` and Replays prove the theorems. Assumes nothing.
use mathlib.Core.Path.{◌≡◌, sym, ap, ◌∙◌, subst}
use mathlib.Core.List.{List}
use Prim.Native.Nat.{ℕ, ◌+◌, ◌<◌, ◌≤◌}
use lib.ListN.{length, drop, replicate}
use Rattle.trace_replay.specs.declared.call.Replayed.{Replayed}
use Rattle.trace_replay.specs.call.Replay.{Noted, replay_of}
use Rattle.trace_thin.specs.declared.call.Thinned.{Thinned}
use Rattle.trace_thin.specs.call.Thin.{Left, thin_of, thin_in_place_of}
use Rattle.trace_thin.specs.call.Thins.{trace_in, Done}
use Rattle.trace_thin.proofs.call.Thins.{thins}
use Rattle.promises.specs.thin_kept.Replays.{Counted}
use Rattle.promises.specs.thin_kept.Calls.{ThinCall, trace, room, left, WithinCall, old, left_in, ReplayCall, replayed_trace}
use Rattle.promises.specs.thin_kept.Calls.{CallsThin, CallsThinReplay}
use Rattle.promises.proofs.thin_kept.Replays.{counted}

abbrev code_in : Left → ℕ
code_in l = l.answer.code

abbrev answer_in : Left → Thinned
answer_in l = l.answer

-- ---- into a separate output

module _ (c : ThinCall) where
  is : left c ≡ thin_of (trace c) (room c)
  is = c.made.0

  done : c.x.code ≡ 0 → Done (trace c) (left c)
  done on = subst (Done (trace c)) (sym is) (thins.done (trace c) (room c) c.made.1 (sym (ap code_in is) ∙ on))

  unchanged : c.x.code ≡ 0 → drop c.x.length (left c).output ≡ drop c.x.length (room c)
  unchanged =
      subst (λ (l : Left). l.answer.code ≡ 0 → drop l.answer.length l.output ≡ drop l.answer.length (room c)) (sym is)
      (thins.behind (trace c) (room c))

-- ---- inside one buffer

module _ (d : WithinCall) where
  is_in : left_in d ≡ thin_in_place_of (old d)
  is_in = d.made.0

  done_in : d.x.code ≡ 0 → Done (old d) (left_in d)
  done_in on = subst (Done (old d)) (sym is_in) (thins.in_place (old d) d.made.1 (sym (ap code_in is_in) ∙ on))

  zeros : (n : ℕ) → d.x.code ≡ 0 → d.x.length + n ≡ length (old d) → drop d.x.length (left_in d).output ≡ replicate n 0
  zeros n =
      subst
      (λ (l : Left). l.answer.code ≡ 0 → l.answer.length + n ≡ length (old d) → drop l.answer.length l.output ≡ replicate n 0)
      (sym is_in) (λ on long. thins.cleared (old d) on n long)

-- ---- both forms, of one trace

module _ (c : ThinCall) (d : WithinCall) (one : old d ≡ trace c) where
  of-trace : left_in d ≡ thin_in_place_of (trace c)
  of-trace = is_in d ∙ ap thin_in_place_of one

  alike : c.x.code ≡ 0 → (d.x ≡ c.x) × (trace_in (left_in d) ≡ trace_in (left c))
  alike on =
      let told = thins.same (trace c) (room c) c.made.1 (sym (ap code_in (is c)) ∙ on) in
      (ap answer_in of-trace ∙ told.0 ∙ sym (ap answer_in (is c)), ap trace_in of-trace ∙ told.1 ∙ sym (ap trace_in (is c)))

pub calls_thin : CallsThin
calls_thin = record {
  done = done;
  in_place = done_in;
  again = λ c d on same fits. is d ∙ ap (λ (t : List ℕ). thin_of t (room d)) same ∙ (done c on).again (room d) fits;
  again_in_place = λ c d on same. is_in d ∙ ap thin_in_place_of same ∙ (done_in c on).again_in_place;
  cleared = zeros;
  behind = unchanged;
  same = λ c d on one. alike c d one on;
  short = λ c d good one less.
      is c ∙ thins.short (trace c) (room c) good (subst (λ (l : Left). length (room c) < l.answer.length) (of-trace c d one) less);
  long = λ c d good one fits.
      ap code_in (is c)
      ∙ thins.long (trace c) (room c) good (subst (λ (l : Left). l.answer.length ≤ length (room c)) (of-trace c d one) fits);
  always = λ d good. ap code_in (is_in d) ∙ thins.always (old d) good;
  broken = λ c bad. is c ∙ (thins.broken (trace c) (room c) bad).0;
  broken_in_place = λ d bad. is_in d ∙ (thins.broken (old d) (old d) bad).1;
}

-- ---- a replay of what was left

replay_counts : (bs : List ℕ) (l : Left) → Done bs l → (r : ReplayCall) → replayed_trace r ≡ trace_in l → r.x.code ≡ 0
    → Counted bs l r.x
replay_counts bs l d r same on =
    let row = r.a.1.0.now in
    let told : r.x ≡ (replay_of (trace_in l) row).answer =
    ap (λ (n : Noted). n.answer) r.made ∙ ap (λ (t : List ℕ). (replay_of t row).answer) same in
    subst (Counted bs l) (sym told) (counted bs row l d (sym (ap (λ (x : Replayed). x.code) told) ∙ on))

pub calls_thin_replay : CallsThinReplay
calls_thin_replay = record {
  apart = λ c r on same told. replay_counts (trace c) (left c) (done c on) r same told;
  in_place = λ c r on same told. replay_counts (old c) (left_in c) (done_in c on) r same told;
}
