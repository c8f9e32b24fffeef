-- `word_of` meets its contract. The loop's invariant: x is what the bytes from i to n spell.. Assumes nothing.
use mathlib.Core.Path.{◌≡◌, sym}
use Prim.Native.Nat.{suc, ◌+◌, ◌*◌, ◌<◌, ◌-◌, ◌^◌}
use native.Mathlib.Omega.{arith}
use Rattle.octets.proofs.words.Loops.{read-turn, read_none, one_more, within_eight}
use Rattle.octets.proofs.words.word_of.Goals as goal
use Rattle.octets.proofs.words.word_of.Goals.{After-byte}

-- x with one byte more fits its bytes, and so a u64
abbrev grown : (c : After-byte) → c.loop-i.x * 256 + c.byte.result < 256 ^ suc
    (c.args.n - c.loop-i.i)
grown c = one_more _ _ _ c.loop-i.invariant.2 c.byte.ensures.1

pub loop-i-init : goal.loop-i-init
loop-i-init c =
    let none : c.args.n - c.args.n ≡ 0 =
    omega arith in (omega arith, sym (read_none c.args.n c.args.bytes.now), rw none (omega arith))

pub overflow_mul-x : goal.overflow_mul-x
overflow_mul-x c =
    record {
      fits = within_eight _ (suc (c.args.n - c.loop-i.i)) (omega arith)
          (omega (arith, one_more c.loop-i.x 0 _ c.loop-i.invariant.2 (omega arith)));
    }

pub overflow_add-x : goal.overflow_add-x
overflow_add-x c = record { fits = within_eight _ _ (omega arith) (grown c) }

pub loop-i-preserved : goal.loop-i-preserved
loop-i-preserved c =
    let n = c.args.n in
    let i = c.loop-i.i in
    let bytes = c.args.bytes.now in
    let back : suc (i - 1) ≡ i = omega arith in
    let left : n - (i - 1) ≡ suc (n - i) = omega arith in (
      omega arith,
      omega (arith, c.loop-i.invariant.1, c.byte.ensures.0, rw back at (read-turn (i - 1) n bytes (omega arith))),
      rw left (grown c),
    )
