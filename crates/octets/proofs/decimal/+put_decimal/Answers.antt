-- `put_decimal` meets its contract: the digits of the tenth first, then the last one. Assumes nothing.
use Rattle.std.proofs.Common.{◌∙◌, sym, ap, refl, ◌/◌, ◌%◌, ◌<◌, ◌^◌, length, length-append, arith}
use Rattle.std.proofs.lemmas.List.Edits.{sets}
use Rattle.octets.specs.decimal.Decimal.{digit, decimal_of}
use Rattle.octets.proofs.decimal.Digits.{one-digit, tenth, tenth_length}
use Rattle.octets.proofs.words.Stores.{wrote_after}
use Rattle.octets.proofs.decimal.+put_decimal.Goals as goal

pub returns-then-n-lt10 : goal.returns-then-n-lt10
returns-then-n-lt10 t c =
    let a = c.args in
    let d = one-digit 19 a.n c.if-n-lt10.true in
    (omega (arith, ap length d), ap (sets a.bytes.now a.place) (sym d))

pub bounds-bytes-next : goal.bounds-bytes-next
bounds-bytes-next t c =
    let a = c.args in
    let small : a.n < 2 ^ 64 = omega arith in
    omega (arith, c.put_decimal-next.ensures.0, tenth_length a.n small)

pub overflow_add-result-2 : goal.overflow_add-result-2
overflow_add-result-2 t c =
    let a = c.args in
    let small : a.n < 2 ^ 64 = omega arith in
    let room : c.put_decimal-next.result < length c.put_decimal-next.new.bytes =
    omega (arith, c.put_decimal-next.ensures.0, tenth_length a.n small) in
    omega arith

pub returns : goal.returns
returns t c =
    let a = c.args in
    let small : a.n < 2 ^ 64 = omega arith in
    let d = tenth a.n small c.if-n-lt10.false in
    let place = c.put_decimal-next.ensures.0 in (
      omega (arith, place, ap length d, length-append (decimal_of (a.n / 10)) (digit (a.n % 10))),
      wrote_after a.bytes.now _ _ a.place _ (decimal_of (a.n / 10)) (digit (a.n % 10)) c.put_decimal-next.ensures.1 place refl
          ∙ ap (sets a.bytes.now a.place) (sym d),
    )
