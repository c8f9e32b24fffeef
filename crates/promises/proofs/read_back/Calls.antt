-- The contracts equate both calls with their definitions, of which `trace` proves that the one reads what the other wrote. Assumes nothing.
use mathlib.Core.Path.{sym, ap, ◌∙◌}
use mathlib.Core.List.{List}
use Prim.Native.Nat.{ℕ}
use Rattle.trace.specs.entries.Writing.{Left}
use Rattle.trace.specs.value.Recorded.{recorded_in}
use Rattle.trace.specs.kept.Appended.{trace_in}
use Rattle.trace.proofs.kept.Kept.{append_kept, earlier_kept}
use Rattle.promises.specs.read_back.Calls.{CallsReadBack}

pub calls_read_back : CallsReadBack
calls_read_back κs a x s called done ks b y t read on =
    let code = sym (ap (λ (l : Left). l.answer.code) called.0) ∙ done in
    let of-trace = read ∙ ap (λ (l : List ℕ). recorded_in l b.1.0) (on ∙ ap trace_in called.0) in
    record {
      last = λ place.
          of-trace ∙ ap (recorded_in _) place
          ∙ append_kept _ _ _ _ _ _ _ _ called.2 a.0.now a.1.0 called.1 code;
      earlier = λ few. of-trace ∙ earlier_kept _ _ _ _ _ _ _ _ called.2 a.0.now a.1.0 called.1 code b.1.0 few;
    }
