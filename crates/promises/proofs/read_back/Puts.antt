-- The contracts equate the calls with their definitions, of which `trace` proves that the one reads what the other wrote, and that puts
-- and a seal give the trace of create and appends. A row of calls is followed call by call. Assumes nothing.
use Prim.Native.Nat.{ℕ, ◌≤◌}
use mathlib.Core.Path.{◌≡◌, refl, sym, ap, ◌∙◌, subst}
use mathlib.Core.Bool.{Bool, true, false}
use mathlib.Core.List.{List, [], ◌∷◌, ◌++◌, map}
use native.Mathlib.Omega.{arith}
use lib.Dec.{ltb}
use lib.ListN.{length, take, drop, length-append, length-drop}
use lib.Seq.{drop_at}
use borrow.Author.Tests.{ltb-false}
use Rattle.octets.specs.words.Words.{AllBelow}
use Rattle.trace_layout.specs.Traces.{newest_edition, records_bytes, trace_of}
use Rattle.trace.specs.declared.entries.Written.{Written}
use Rattle.trace.specs.declared.value.Recorded.{Recorded}
use Rattle.trace.specs.entries.Writing.{Left, create_of}
use Rattle.trace.specs.recording.Recording.{record_at_of, trace_seal_of}
use Rattle.trace.specs.kept.Appended.{trace_in}
use Rattle.trace.specs.kept.Made.{Call, called, AllPassed, Held, begun, append_one, append_all}
use Rattle.trace.specs.kept.Sealed.{put_call, unused, put_one, put_all, seal_all, EachAppended}
use Rattle.trace_layout.proofs.Traces.{trace-below}
use Rattle.trace.proofs.seal.Sealing.{length-trace}
use Rattle.trace.proofs.kept.Made.{is_created, trace_created}
use Rattle.trace.proofs.kept.Sealed.{put_sealed}
use Rattle.promises.specs.read_back.Puts.{Turn, DonePut, put_turn, DoneAppend, append_turn, Chained, searches}
use Rattle.promises.specs.read_back.Puts.{PutsReadBack, SealsAlike}

-- ---- one put

module _ (e : ℕ) (p : DonePut e) where
  abbrev pub search : Call
  search = (put_turn e p).search

  abbrev left : Left
  left = record { answer = p.x; bytes = p.s.0.now }

  -- what its contract says
  pub put_is : put_call e p.a.0.now p.a.1.0 search ≡ left
  put_is = rw (sym p.edition) (sym p.made.0)

  put_was_done : (put_call e p.a.0.now p.a.1.0 search).answer.code ≡ 0
  put_was_done = ap (λ (l : Left). l.answer.code) put_is ∙ p.done

pub puts_read_back : PutsReadBack
puts_read_back e p ks b y t read on edition place =
    let at = p.a.1.0 in
    let told = put_sealed.read e p.a.0.now at (search e p) p.made.2 (put_was_done e p) in
    let of_put : y ≡ record_at_of (put_call e p.a.0.now at (search e p)).bytes e at =
    read ∙ rw (on, edition, place, put_is e p) in
    (of_put ∙ told.0, ap (λ (r : Recorded). r.next) of_put ∙ told.1 ∙ ap (λ (l : Left). l.answer.length) (put_is e p))

-- ---- a row of calls

-- each call does to the slice what one turn of the definition does: then so does the row
module _ (one : Held → Call → Held) (all : Held → List Call → Held) (none : (h : Held) → all h [] ≡ h)
    (more : (h : Held) (a : Call) (calls : List Call) → all h (a ∷ calls) ≡ all (one h a) calls) where
  abbrev Does : Turn → Type 0
  Does t =
      (h : Held) → t.found ≡ h.bytes → t.at ≡ h.used → ((one h t.search).bytes ≡ t.left) × ((one h t.search).used ≡ t.end)

  chain : {A : Type 0} (turn : A → Turn) → ((p : A) → Does (turn p)) → (ps : List A) (h : Held) (cs : List ℕ) (end : ℕ)
      → Chained h.bytes h.used (map turn ps) cs end
      → let g = all h (searches (map turn ps)) in (g.bytes ≡ cs) × (g.used ≡ end)
  unfolding Chained
  chain turn does [] h cs end c = rw (none h) c
  chain turn does (p ∷ ps) h cs end c =
      let t = turn p in
      let now_is = does p h c.0 c.1 in
      let rest : Chained (one h t.search).bytes (one h t.search).used (map turn ps) cs end = rw (now_is.0, now_is.1) c.2 in
      rw (more h t.search (searches (map turn ps))) (chain turn does ps (one h t.search) cs end rest)

-- puts
pub put_does : (e : ℕ) (p : DonePut e) (h : Held) → p.a.0.now ≡ h.bytes → p.a.1.0 ≡ h.used
    → ((put_one e h (search e p)).bytes ≡ p.s.0.now) × ((put_one e h (search e p)).used ≡ p.x.length)
unfolding put_one
put_does e p h on at = rw (sym on, sym at, put_is e p, p.done) (refl, refl)

pub puts_are : (e : ℕ) (ps : List (DonePut e)) (h : Held) (cs : List ℕ) (end : ℕ) → Chained h.bytes h.used (map (put_turn e) ps) cs end
    → let g = put_all e h (searches (map (put_turn e) ps)) in (g.bytes ≡ cs) × (g.used ≡ end)
unfolding put_all
puts_are e = chain (put_one e) (put_all e) (λ h. refl) (λ h a calls. refl) (put_turn e) (put_does e)

-- appends
append_code : (p : DoneAppend) (h : Held) → p.a.0.now ≡ h.bytes → p.a.1.0 ≡ h.used
    → (called h.bytes h.used (append_turn p).search).answer.code ≡ 0
append_code p h on at = rw (sym on, sym at, sym p.made.0) p.done

append_does : (p : DoneAppend) (h : Held) → p.a.0.now ≡ h.bytes → p.a.1.0 ≡ h.used
    → ((append_one h (append_turn p).search).bytes ≡ p.s.0.now) × ((append_one h (append_turn p).search).used ≡ p.x.length)
unfolding append_one
append_does p h on at = rw (sym on, sym at, sym p.made.0, p.done) (refl, refl)

appends_are : (ps : List DoneAppend) (h : Held) (cs : List ℕ) (end : ℕ) → Chained h.bytes h.used (map append_turn ps) cs end
    → let g = append_all h (searches (map append_turn ps)) in (g.bytes ≡ cs) × (g.used ≡ end)
unfolding append_all
appends_are = chain append_one append_all (λ h. refl) (λ h a calls. refl) append_turn append_does

all_passed : (ps : List DoneAppend) → AllPassed (searches (map append_turn ps))
unfolding AllPassed
all_passed [] = tt
all_passed (p ∷ ps) = (p.made.2, all_passed ps)

each_appended : (ps : List DoneAppend) (h : Held) (cs : List ℕ) (end : ℕ) → Chained h.bytes h.used (map append_turn ps) cs end
    → EachAppended h (searches (map append_turn ps))
unfolding EachAppended Chained
each_appended [] h cs end c = tt
each_appended (p ∷ ps) h cs end c =
    let now_is = append_does p h c.0 c.1 in
    (append_code p h c.0 c.1, each_appended ps (append_one h (append_turn p).search) cs end (rw (now_is.0, now_is.1) c.2))

-- ---- a slice that a create was done in

created_room : (cs : List ℕ) → (create_of cs).answer.code ≡ 0 → (b : Bool) → ltb (length cs) 20 ≡ b → 20 ≤ length cs
unfolding create_of
created_room cs done true short = absurd (omega (arith, rw short at done))
created_room cs done false short = omega (arith, ltb-false (length cs) 20 short)

module _ (cs : List ℕ) (room : 20 ≤ length cs) where
  abbrev empty : List ℕ
  empty = trace_of newest_edition []

  abbrev after : List ℕ
  after = (create_of cs).bytes

  empty-length : length empty ≡ 20
  unfolding records_bytes
  empty-length = length-trace newest_edition []

  after_is : after ≡ empty ++ drop (length empty) cs
  after_is = ap (λ (l : Left). l.bytes) (is_created cs room)

  after-length : length after ≡ length cs
  after-length =
      ap length after_is ∙ omega (arith, length-append empty (drop (length empty) cs), length-drop (length empty) cs, empty-length)

  abbrev leave-empty : List ℕ → Left
  leave-empty behind = record { answer = record { code = 0; length = length empty }; bytes = empty ++ behind }

  -- a create in what a create left changes nothing
  created_again : create_of after ≡ create_of cs
  created_again =
      is_created after (omega (arith, after-length))
      ∙ ap leave-empty (ap (drop (length empty)) after_is ∙ drop_at empty (drop (length empty) cs) (length empty) refl)
      ∙ sym (is_created cs room)

-- ---- puts and a seal, create and appends

module _ (puts : List (DonePut newest_edition)) (bs cs : List ℕ) (used : ℕ)
    (put : Chained bs 0 (map (put_turn newest_edition) puts) cs used) (y : Written) (ts : List ℕ)
    (seal : record { answer = y; bytes = ts } ≡ trace_seal_of cs used newest_edition) where
  abbrev sealed : Left
  sealed = record { answer = y; bytes = ts }

  -- of the same searches, in a slice vs that a create was done in
  module _ (vs : List ℕ) (bytes : AllBelow 256 vs) (room : 20 ≤ length vs) (long : length vs ≤ length bs) (appends : List DoneAppend)
      (ds : List ℕ) (end : ℕ) (append : Chained (begun vs).bytes (begun vs).used (map append_turn appends) ds end)
      (same : searches (map (put_turn newest_edition) puts) ≡ searches (map append_turn appends)) where
    abbrev calls : List Call
    calls = searches (map append_turn appends)

    abbrev h : Held
    h = put_all newest_edition (unused bs) calls

    puts-left : (h.bytes ≡ cs) × (h.used ≡ used)
    puts-left = rw (sym same) (puts_are newest_edition puts (unused bs) cs used put)

    seal_is : seal_all newest_edition h ≡ sealed
    seal_is = rw (puts-left.0, puts-left.1) (sym seal)

    alike : (y.code ≡ 0) × (take y.length ts ≡ take end ds)
    alike =
        let made-is = appends_are appends (begun vs) ds end append in
        let told = put_sealed.same bs vs calls bytes room long (all_passed appends) (each_appended appends (begun vs) ds end append) in (
          sym (ap (λ (l : Left). l.answer.code) seal_is) ∙ told.1,
          sym (ap trace_in seal_is) ∙ told.2 ∙ rw (made-is.0, made-is.1),
        )

-- No append: both are the empty trace. Else the first append found bytes, those that the create left.
pub seals_alike : SealsAlike
unfolding Chained
seals_alike puts bs cs used put ks c x s created done long [] ds end append same ls f y t seal on upto edition =
    let room = created_room c.0.now (sym (ap (λ (l : Left). l.answer.code) created) ∙ done) (ltb (length c.0.now) 20) refl in
    let none = empty c.0.now room in
    let twenty = empty-length c.0.now room in
    let roomy : 20 ≤ length none = omega (arith, twenty) in
    let told =
    alike puts bs cs used put y t.0.now (seal ∙ rw (on, upto, edition)) none (trace-below newest_edition []) roomy
    (omega (arith, twenty)) [] (begun none).bytes (begun none).used (refl, refl) same in
    let made : take end ds ≡ none =
    rw (sym append.0, sym append.1) (ap trace_in created ∙ trace_created c.0.now room) in
    (told.0, told.1 ∙ trace_created none roomy ∙ sym made)
seals_alike puts bs cs used put ks c x s created done long (p ∷ ps) ds end append same ls f y t seal on upto edition =
    let room = created_room c.0.now (sym (ap (λ (l : Left). l.answer.code) created) ∙ done) (ltb (length c.0.now) 20) refl in
    let bytes_is : s.0.now ≡ (create_of c.0.now).bytes = ap (λ (l : Left). l.bytes) created in
    let long_is : length s.0.now ≡ length c.0.now = ap length bytes_is ∙ after-length c.0.now room in
    let again : create_of s.0.now ≡ record { answer = x; bytes = s.0.now } =
    ap create_of bytes_is ∙ created_again c.0.now room ∙ sym created in
    let appended : Chained (begun s.0.now).bytes (begun s.0.now).used (map append_turn (p ∷ ps)) ds end =
    subst (λ (l : Left). Chained l.bytes l.answer.length (map append_turn (p ∷ ps)) ds end) (sym again) append in
    alike puts bs cs used put y t.0.now (seal ∙ rw (on, upto, edition)) s.0.now (subst (AllBelow 256) append.0 p.made.1)
    (omega (arith, long_is)) (omega (arith, long_is)) (p ∷ ps) ds end appended same
