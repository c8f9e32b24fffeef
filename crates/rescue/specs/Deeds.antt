-- What the program does with OUT. 02, Orders 7 and 8. Definitions only.
use Rattle.std.specs.Prelude.{ℕ, Bool, cond, List, eqb, ltb, Option, Some, None, is_some}
use Rattle.trace_layout.specs.Traces.{too_large}
use Rattle.trace_rescue.specs.declared.call.Rescued.{Rescued}
use Rattle.trace_rescue.specs.file.Printed.{edition_of}
use Rattle.rescue.specs.declared.Deed.{Deed}
use Rattle.rescue.specs.declared.Deed.TheVariants.{Write, Ask, Leave}

-- Order 8: rescue "takes it from its caller" where the input does not end in a known edition. The program's caller names one by a word, or
-- none
unfoldable pub edition_named : Bool → List ℕ → Option ℕ
edition_named named word = cond named (Some (edition_of word)) None

-- what rescue is given: 0 is no edition
unfoldable pub number_of : Option ℕ → ℕ
number_of None = 0
number_of (Some edition) = edition

-- What is done: Write is that the text is printed and the trace written, or only `refused N` printed; Ask, that the caller is asked for an
-- edition; Leave, that OUT is left alone. By what the call rescue answers. 9 is its answer where an edition is needed and not known: a caller that named none is asked for one. A
-- rescue that would keep no record and drop bytes saves nothing
unfoldable pub deed_by : Option ℕ → Rescued → Deed
deed_by edition a = cond (eqb a.code 9) (cond (is_some edition) Write Ask) (cond (eqb a.kept 0) (cond (ltb 0 a.dropped) Leave Write) Write)

-- a file above the limit is `refused 8`, whatever stands in it
unfoldable pub deed_of : Option ℕ → List ℕ → Rescued → Deed
deed_of edition bs a = cond (too_large bs) Write (deed_by edition a)
