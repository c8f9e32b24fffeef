-- What is put is read back the same, and sealed it is the trace of create and appends: of the calls `spindle_record_put`,
-- `spindle_record_at` and `spindle_trace_seal` themselves. As in Calls, no hypothesis is left to a caller but that the calls were made, one
-- on what the other left. Statements; proofs/read_back/Puts has the proofs.
use Rattle.std.specs.Prelude.{ℕ, ◌≤◌, ◌≡◌, List, [], ◌∷◌, map, length, take}
use denote.Triple.Clauses.{AtExit}
use contract.Lifetimes.{Lfts}
use borrow.Fn.Kinds.{Dens, ended_of}
use Rattle.trace_layout.specs.Traces.{newest_edition}
use Rattle.trace.specs.declared.entries.Written.{Written}
use Rattle.trace.specs.declared.value.Recorded.{Recorded}
use Rattle.trace.specs.kept.Kept.{kept_of}
use Rattle.trace.specs.kept.Made.{Call}
use Rattle.spindle.proofs.spindle_record_put.Kinds as put_kinds
use Rattle.spindle.proofs.spindle_record_put.Reads as put
use Rattle.spindle.proofs.spindle_record_at.Kinds as at_kinds
use Rattle.spindle.proofs.spindle_record_at.Reads as record_at
use Rattle.spindle.proofs.spindle_trace_seal.Kinds as seal_kinds
use Rattle.spindle.proofs.spindle_trace_seal.Reads as seal
use Rattle.spindle.proofs.spindle_trace_create.Kinds as create_kinds
use Rattle.spindle.proofs.spindle_trace_create.Reads as create
use Rattle.spindle.proofs.spindle_trace_append.Kinds as append_kinds
use Rattle.spindle.proofs.spindle_trace_append.Reads as append

-- ---- calls that were made and done

-- what a call does to its slice: the bytes and the place that it finds, the search that it is handed, the bytes and the place that it
-- leaves
pub record Turn : Type 0 where
  pub found : List ℕ
  pub at : ℕ
  pub search : Call
  pub left : List ℕ
  pub end : ℕ

-- a put in an edition, with the arguments a, which answered x and left s. The arguments: the slice, the place, the edition, cone, flag,
-- settings, dz, ds, z, s, steps
pub record DonePut (e : ℕ) : Type 0 where
  pub κs : Lfts 5
  pub a : Dens κs put_kinds.ps
  pub x : Written
  pub s : AtExit (ended_of 5 put_kinds.ps put_kinds.r) κs
  pub made : put.Post κs a x s
  pub edition : a.1.1.0 ≡ e
  pub done : x.code ≡ 0

abbrev pub put_turn : (e : ℕ) → DonePut e → Turn
put_turn e p =
    let rest = p.a.1.1.1 in
    record {
      found = p.a.0.now;
      at = p.a.1.0;
      search = record {
        cone = rest.0;
        flag = rest.1.0;
        settings = rest.1.1.0;
        dz = rest.1.1.1.0.now;
        ds = rest.1.1.1.1.0.now;
        z = rest.1.1.1.1.1.0.now;
        s = rest.1.1.1.1.1.1.0.now;
        steps = rest.1.1.1.1.1.1.1.0;
      };
      left = p.s.0.now;
      end = p.x.length;
    }

-- an append. Its arguments: the slice, `used`, and as before
pub record DoneAppend : Type 0 where
  pub κs : Lfts 5
  pub a : Dens κs append_kinds.ps
  pub x : Written
  pub s : AtExit (ended_of 5 append_kinds.ps append_kinds.r) κs
  pub made : append.Post κs a x s
  pub done : x.code ≡ 0

abbrev pub append_turn : DoneAppend → Turn
append_turn p =
    let rest = p.a.1.1 in
    record {
      found = p.a.0.now;
      at = p.a.1.0;
      search = record {
        cone = rest.0;
        flag = rest.1.0;
        settings = rest.1.1.0;
        dz = rest.1.1.1.0.now;
        ds = rest.1.1.1.1.0.now;
        z = rest.1.1.1.1.1.0.now;
        s = rest.1.1.1.1.1.1.0.now;
        steps = rest.1.1.1.1.1.1.1.0;
      };
      left = p.s.0.now;
      end = p.x.length;
    }

-- each call finds what the one before it left, the first one bs and the place `at`; the last one leaves cs and `end`
unfoldable pub Chained : List ℕ → ℕ → List Turn → List ℕ → ℕ → Type 0
Chained bs at [] cs end = (bs ≡ cs) × (at ≡ end)
Chained bs at (t ∷ ts) cs end = (t.found ≡ bs) × (t.at ≡ at) × Chained t.left t.end ts cs end

abbrev pub searches : List Turn → List Call
searches ts = map (λ (t : Turn). t.search) ts

-- ---- the statements

-- 02, Order 1: "what one writes the other reads back the same". `spindle_record_at` was asked of the bytes that the put left, in its
-- edition, at its place: it gives what the put was given, and the next record begins where the put ended
abbrev pub PutsReadBack : Type 0
PutsReadBack =
    (e : ℕ) (p : DonePut e) (ks : Lfts 1) (b : Dens ks at_kinds.ps) (y : Recorded) (t : AtExit (ended_of 1 at_kinds.ps at_kinds.r) ks)
    → record_at.Post ks b y t → b.0.now ≡ p.s.0.now → b.1.0 ≡ e → b.1.1.0 ≡ p.a.1.0
    → let a = (put_turn e p).search in
    (y ≡ kept_of e p.a.1.0 a.cone a.flag a.settings a.dz a.ds a.z a.s a.steps) × (y.next ≡ p.x.length)

-- Put, put, .., seal is the trace that create and appends of the same searches make, byte for byte. Where the slice of the puts, bs, is at
-- least as long as that of the create, the seal is done
abbrev pub SealsAlike : Type 0
SealsAlike =
    (puts : List (DonePut newest_edition)) (bs cs : List ℕ) (used : ℕ) → Chained bs 0 (map (put_turn newest_edition) puts) cs used
    → (ks : Lfts 1) (c : Dens ks create_kinds.ps) (x : Written) (s : AtExit (ended_of 1 create_kinds.ps create_kinds.r) ks)
    → create.Post ks c x s → x.code ≡ 0 → length c.0.now ≤ length bs
    → (appends : List DoneAppend) (ds : List ℕ) (end : ℕ) → Chained s.0.now x.length (map append_turn appends) ds end
    → searches (map (put_turn newest_edition) puts) ≡ searches (map append_turn appends)
    → (ls : Lfts 1) (f : Dens ls seal_kinds.ps) (y : Written) (t : AtExit (ended_of 1 seal_kinds.ps seal_kinds.r) ls)
    → seal.Post ls f y t → f.0.now ≡ cs → f.1.0 ≡ used → f.1.1.0 ≡ newest_edition
    → (y.code ≡ 0) × (take y.length t.0.now ≡ take end ds)
