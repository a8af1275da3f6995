-- Each sender's stream, as media datagrams come.
use Rattle.std.proofs.Common.{◌≡◌, ◌≢◌, ⊎_elim, ℕ, suc, zero, ◌+◌, ◌<◌, ◌≤◌, Bool, true, false, ◌||◌, ◌&&◌, cond, eqb, leb, leb as nat_le, zero-add, Option, Some, None, List, [], ◌∷◌, ◌++◌, length, get_or, set, drop, refl, sym, ap, ◌∙◌, subst, arith, length-append}
use Rattle.std.proofs.Math.Bool.{or-false, or-true, or_assoc}
use Rattle.std.proofs.lemmas.Bool.{cases_Bool, cases_eq, cases_lt, false≢true, false_from_ne_true, le-leb, or_parts}
use Rattle.std.proofs.lemmas.Bool.Decides.{eqb_tells, leb_tells}
use Rattle.std.proofs.lemmas.List.{drop_more, get_or-set_same, get_or-set_other, get_or_append_left, get_or_at, length-set}
use Rattle.fg_streams.specs.Arrival.{Arrival}
use Rattle.fg_streams.specs.Steps.{IsStreamOf, StreamState, told}
use Rattle.fg_streams.specs.Summary.{Summary}
use Rattle.fg_survey.specs.declared.reading.Reading.{Reading}
use Rattle.fg_survey.specs.declared.reading.Reading.TheVariants.{Media as MediaRead, Parity, Other}
use Rattle.fg_survey.specs.declared.senders.Sender.{Sender}
use Rattle.fg_survey.specs.declared.streams.Media.{Media}
use Rattle.fg_survey.specs.Heard.{Heard}
use Rattle.fg_survey.specs.Senders.{arrival_in, arrivals_of, listed, one_unlisted, same_sender, sender_of, senders_of, unlisted, with_sender}
use Rattle.fg_survey.specs.Steps.{AreStreams, IsFoundAt, IsNoMedia, arrival_of, media_heard}

-- Two senders

eq_yes : (a b : ℕ) → a ≡ b → eqb a b ≡ true
eq_yes a b same = ⊎_elim (λ (yes : (eqb a b ≡ true) × (a ≡ b)). yes.0) (λ (absent : (eqb a b ≡ false) × (a ≢ b)). absurd (absent.1 same)) (eqb_tells a b)

both : (a b : Bool) → (a && b) ≡ true → (a ≡ true) × (b ≡ true)
both true true h = (refl, refl)
both true false h = absurd cc
both false b h = absurd cc

one_sender : (s t : Sender) → s.port ≡ t.port → s.ssrc ≡ t.ssrc → s ≡ t
one_sender s t port ssrc = ap (λ p. record s { port = p }) port ∙ ap (λ r. record t { ssrc = r }) ssrc

eq_is : (a b : ℕ) → eqb a b ≡ true → a ≡ b
eq_is a b h = ⊎_elim (λ (yes : (eqb a b ≡ true) × (a ≡ b)). yes.1) (λ (absent : (eqb a b ≡ false) × (a ≢ b)). absurd cc) (eqb_tells a b)

pub same_is : (s t : Sender) → same_sender s t ≡ true → s ≡ t
same_is s t h =
    let parts = both (eqb s.port t.port) (eqb s.ssrc t.ssrc) h in
    one_sender s t (eq_is s.port t.port parts.0) (eq_is s.ssrc t.ssrc parts.1)

pub is_same : (s t : Sender) → s ≡ t → same_sender s t ≡ true
is_same s t h =
    ap (λ b. b && eqb s.ssrc t.ssrc) (eq_yes s.port t.port (ap (λ (u : Sender). u.port) h)) ∙ eq_yes s.ssrc t.ssrc (ap (λ (u : Sender). u.ssrc) h)

not_same : (s t : Sender) → s ≢ t → same_sender s t ≡ false
not_same s t h = false_from_ne_true (same_sender s t) (λ yes. h (same_is s t yes))

pub other_sender : (s t : Sender) → same_sender s t ≡ false → s ≢ t
other_sender s t absent same = absurd (false≢true (sym absent ∙ is_same s t same))

-- The list of senders

pub listed_more : (senders : List Sender) (t s : Sender) → listed (senders ++ t ∷ []) s ≡ (listed senders s || same_sender s t)
listed_more [] t s = or-false (same_sender s t)
listed_more (x ∷ senders) t s = ap (λ b. same_sender s x || b) (listed_more senders t s) ∙ sym (or_assoc (same_sender s x) (listed senders s) (same_sender s t))

pub listed_next : (senders : List Sender) (s : Sender) (i : ℕ) (d : Sender) → i < length senders → same_sender s (get_or senders i d) ≡ false → listed (drop i senders) s ≡ listed (drop (i + 1) senders) s
listed_next senders s i d within absent = ap (λ t. listed t s) (drop_more senders i d within) ∙ ap (λ b. b || listed (drop (i + 1) senders) s) absent

pub listed_end : (senders : List Sender) (s : Sender) → listed (drop (length senders) senders) s ≡ false
listed_end [] s = refl
listed_end (x ∷ senders) s = listed_end senders s

pub listed_at : (senders : List Sender) (s : Sender) (place : ℕ) (d : Sender) → place < length senders → get_or senders place d ≡ s → listed senders s ≡ true
listed_at [] s place d within is = absurd (omega (arith, within))
listed_at (x ∷ senders) s zero d within is = ap (λ b. b || listed senders s) (is_same s x (sym is))
listed_at (x ∷ senders) s (suc place) d within is = ap (λ b. same_sender s x || b) (listed_at senders s place d (omega (arith, within)) is) ∙ or-true (same_sender s x)

not_listed_at : (senders : List Sender) (s : Sender) (place : ℕ) (d : Sender) → place < length senders → listed senders s ≡ false → get_or senders place d ≢ s
not_listed_at senders s place d within absent is = false≢true (sym absent ∙ listed_at senders s place d within is)

below_leb : (a b : ℕ) → b < a → leb a b ≡ false
below_leb a b h = ⊎_elim (λ (yes : (leb a b ≡ true) × (a ≤ b)). absurd (omega (arith, h, yes.1))) (λ (absent : (leb a b ≡ false) × (b < a)). absent.0) (leb_tells a b)

-- how the list goes on

pub stays_listed : (senders : List Sender) (s : Sender) → listed senders s ≡ true → with_sender senders (Some s) ≡ senders
stays_listed senders s h = ap (λ b. cond (b || nat_le 256 (length senders)) senders (senders ++ s ∷ [])) h

pub stays_full : (senders : List Sender) (s : Sender) → 256 ≤ length senders → with_sender senders (Some s) ≡ senders
stays_full senders s full =
    ap (λ b. cond (listed senders s || b) senders (senders ++ s ∷ [])) (le-leb 256 (length senders) full)
    ∙ ap (λ b. cond b senders (senders ++ s ∷ [])) (or-true (listed senders s))

pub goes_on : (senders : List Sender) (s : Sender) → listed senders s ≡ false → length senders < 256 → with_sender senders (Some s) ≡ senders ++ s ∷ []
goes_on senders s new room =
    ap (λ b. cond (b || nat_le 256 (length senders)) senders (senders ++ s ∷ [])) new
    ∙ ap (λ b. cond b senders (senders ++ s ∷ [])) (below_leb 256 (length senders) room)

-- What a datagram adds to a stream

own_arrival : (s : Sender) (m : Media) (datagram : List ℕ) (before : List Heard) → s ≡ m.sender → arrivals_of s (media_heard m datagram ∷ before) ≡ arrival_of m datagram ∷ arrivals_of s before
own_arrival s m datagram before is = ap (λ b. cond b (arrival_of m datagram ∷ []) [] ++ arrivals_of s before) (is_same m.sender s (sym is))

no_arrival : (s : Sender) (m : Media) (datagram : List ℕ) (before : List Heard) → s ≢ m.sender → arrivals_of s (media_heard m datagram ∷ before) ≡ arrivals_of s before
no_arrival s m datagram before other = ap (λ b. cond b (arrival_of m datagram ∷ []) [] ++ arrivals_of s before) (not_same m.sender s (λ same. other (sym same)))

-- A stream of one that isn't listed, where there is room, has nothing yet

none_at : (s : Sender) (time port : ℕ) (datagram : List ℕ) (r : Reading) (before : List Heard)
    → listed (senders_of ((record { time = time; port = port; datagram = datagram; reading = r }) ∷ before)) s ≡ false
    → length (senders_of ((record { time = time; port = port; datagram = datagram; reading = r }) ∷ before)) < 256
    → (listed (senders_of before) s ≡ false → length (senders_of before) < 256 → arrivals_of s before ≡ [])
    → arrivals_of s ((record { time = time; port = port; datagram = datagram; reading = r }) ∷ before) ≡ []
none_at s time port datagram (Parity base offset number) before h k ih = ih h k
none_at s time port datagram Other before h k ih = ih h k
none_at s time port datagram (MediaRead seq ts ssrc) before h k ih =
    let m : Media = record { time = time; sender = record { port = port; ssrc = ssrc }; seq = seq; ts = ts } in
    let t : Sender = m.sender in
    let senders = senders_of before in
    ⊎_elim
    (λ (yes : listed senders t ≡ true).
    let absent : listed senders s ≡ false = subst (λ (l : List Sender). listed l s ≡ false) (stays_listed senders t yes) h in
    let few : length senders < 256 = subst (λ (l : List Sender). length l < 256) (stays_listed senders t yes) k in
    no_arrival s m datagram before (λ same. false≢true (sym absent ∙ ap (λ (u : Sender). listed senders u) same ∙ yes)) ∙ ih absent few)
    (λ (new : listed senders t ≡ false). ⊎_elim
    (λ (room : length senders < 256).
    let both : (listed senders s || same_sender s t) ≡ false = sym (listed_more senders t s) ∙ subst (λ (l : List Sender). listed l s ≡ false) (goes_on senders t new room) h in
    let parts = or_parts (listed senders s) (same_sender s t) both in
    no_arrival s m datagram before (other_sender s t parts.1) ∙ ih parts.0 room)
    (λ (full : 256 ≤ length senders).
    let few : length senders < 256 = subst (λ (l : List Sender). length l < 256) (stays_full senders t full) k in absurd (omega (arith, full, few)))
    (cases_lt (length senders) 256))
    (cases_Bool (listed senders t))

none_yet : (heard : List Heard) (s : Sender) → listed (senders_of heard) s ≡ false → length (senders_of heard) < 256 → arrivals_of s heard ≡ []
none_yet [] s h k = refl
none_yet (x ∷ before) s h k = none_at s x.time x.port x.datagram x.reading before h k (none_yet before s)

-- A stream has no more datagrams than there are records

one_or_none : (b : Bool) (a : Arrival) → length (cond b (a ∷ []) []) ≤ 1
one_or_none true a = omega arith
one_or_none false a = omega arith

few_in : (s : Sender) (time port : ℕ) (datagram : List ℕ) (r : Reading) → length (arrival_in s (record { time = time; port = port; datagram = datagram; reading = r })) ≤ 1
few_in s time port datagram (Parity base offset number) = omega arith
few_in s time port datagram Other = omega arith
few_in s time port datagram (MediaRead seq ts ssrc) =
    let m : Media = record { time = time; sender = record { port = port; ssrc = ssrc }; seq = seq; ts = ts } in
    one_or_none (same_sender m.sender s) (arrival_of m datagram)

pub few_arrivals : (s : Sender) (heard : List Heard) → length (arrivals_of s heard) ≤ length heard
few_arrivals s [] = omega arith
few_arrivals s (x ∷ before) =
    let one = few_in s x.time x.port x.datagram x.reading in
    let rest = few_arrivals s before in
    let both = length-append (arrival_in s x) (arrivals_of s before) in
    omega (arith, one, rest, both)

-- A record that is no media datagram changes nothing

pub stays : (senders : List Sender) (streams : List StreamState) (more time port : ℕ) (datagram : List ℕ) (r : Reading) (before : List Heard) → IsNoMedia r
    → AreStreams senders streams more before → AreStreams senders streams more ((record { time = time; port = port; datagram = datagram; reading = r }) ∷ before)
stays senders streams more time port datagram (MediaRead seq ts ssrc) before absent h = absurd absent
stays senders streams more time port datagram (Parity base offset number) before absent h = record {
  senders_are = h.senders_are;
  as_many = h.as_many;
  distinct = h.distinct;
  each = h.each;
  more_is = h.more_is ∙ sym (zero-add (unlisted before));
}
stays senders streams more time port datagram Other before absent h = record {
  senders_are = h.senders_are;
  as_many = h.as_many;
  distinct = h.distinct;
  each = h.each;
  more_is = h.more_is ∙ sym (zero-add (unlisted before));
}

-- A media datagram

module _ (senders : List Sender) (streams : List StreamState) (more : ℕ) (m : Media) (datagram : List ℕ) (before : List Heard) (h : AreStreams senders streams more before) where
  abbrev after : List Heard
  after = media_heard m datagram ∷ before

  others_stay : (i : ℕ) (d : StreamState) (e : Sender) → i < length senders → get_or senders i e ≢ m.sender → IsStreamOf (get_or streams i d) (arrivals_of (get_or senders i e) after)
  others_stay i d e within other = subst (λ (a : List Arrival). IsStreamOf (get_or streams i d) a) (sym (no_arrival (get_or senders i e) m datagram before other)) (h.each i d e within)

  counted : (b : Bool) → listed (senders_of after) m.sender ≡ b → unlisted after ≡ cond b 0 1 + unlisted before
  counted b is = ap (λ t. cond t 0 1 + unlisted before) is

  -- of a sender that has a stream
  pub taken_at : (place : ℕ) (old new : StreamState) → IsFoundAt senders m.sender place → old ≡ get_or streams place old
      → ((arrivals : List Arrival) → IsStreamOf old arrivals → IsStreamOf new (arrival_of m datagram ∷ arrivals)) → AreStreams senders (set streams place new) more after
  taken_at place old new found is takes =
      let there = found.there in
      let within = found.within in
      let here : listed (senders_of before) m.sender ≡ true = subst (λ (l : List Sender). listed l m.sender ≡ true) h.senders_are (listed_at senders m.sender place m.sender within (there m.sender)) in
      let same : senders_of after ≡ senders_of before = stays_listed (senders_of before) m.sender here in
      record {
        senders_are = h.senders_are ∙ sym same;
        as_many = length-set streams place new ∙ h.as_many;
        distinct = h.distinct;
        each = λ i d e inside. ⊎_elim
            (λ (at : i ≡ place).
            let own : get_or senders i e ≡ m.sender = ap (λ k. get_or senders k e) at ∙ there e in
            let arrivals = arrivals_of (get_or senders i e) before in
            let was : IsStreamOf old arrivals = subst (λ (t : StreamState). IsStreamOf t arrivals) (ap (λ k. get_or streams k old) at ∙ sym is) (h.each i old e inside) in
            subst (λ (a : List Arrival). IsStreamOf (get_or (set streams place new) i d) a) (sym (own_arrival (get_or senders i e) m datagram before own))
            (subst (λ (t : StreamState). IsStreamOf t (arrival_of m datagram ∷ arrivals)) (sym (ap (λ k. get_or (set streams place new) k d) at ∙ get_or-set_same streams place new d (omega (arith, within, h.as_many)))) (takes arrivals was)))
            (λ (other : i ≢ place).
            let not_it : get_or senders i e ≢ m.sender = λ same. ⊎_elim
            (λ (less : i < place). h.distinct i place e less within (same ∙ sym (there e)))
            (λ (past : place ≤ i). h.distinct place i e (omega (arith, past, other)) inside (there e ∙ sym same))
            (cases_lt i place) in
            subst (λ (t : StreamState). IsStreamOf t (arrivals_of (get_or senders i e) after)) (sym (get_or-set_other streams place i new d other)) (others_stay i d e inside not_it))
            (cases_eq i place);
        more_is = h.more_is ∙ sym (counted true (ap (λ (l : List Sender). listed l m.sender) same ∙ here) ∙ zero-add (unlisted before));
      }

  -- of one that has none, where there is no room
  pub taken_more : listed senders m.sender ≡ false → 256 ≤ length senders → AreStreams senders streams (more + 1) after
  taken_more new full =
      let there : listed (senders_of before) m.sender ≡ false = subst (λ (l : List Sender). listed l m.sender ≡ false) h.senders_are new in
      let same : senders_of after ≡ senders_of before = stays_full (senders_of before) m.sender (subst (λ (l : List Sender). 256 ≤ length l) h.senders_are full) in
      let one = counted false (ap (λ (l : List Sender). listed l m.sender) same ∙ there) in
      record {
        senders_are = h.senders_are ∙ sym same;
        as_many = h.as_many;
        distinct = h.distinct;
        each = λ i d e inside. others_stay i d e inside (not_listed_at senders m.sender i e inside new);
        more_is = omega (arith, one, h.more_is);
      }

  -- and where there is
  pub taken_new : (stream : StreamState) → listed senders m.sender ≡ false → length senders < 256 → IsStreamOf stream (arrival_of m datagram ∷ [])
      → AreStreams (senders ++ m.sender ∷ []) (streams ++ stream ∷ []) more after
  taken_new stream new room begun =
      let there : listed (senders_of before) m.sender ≡ false = subst (λ (l : List Sender). listed l m.sender ≡ false) h.senders_are new in
      let few : length (senders_of before) < 256 = subst (λ (l : List Sender). length l < 256) h.senders_are room in
      let grown : senders_of after ≡ senders_of before ++ m.sender ∷ [] = goes_on (senders_of before) m.sender there few in
      let empty : arrivals_of m.sender before ≡ [] = none_yet before m.sender there few in
      let longer = length-append senders (m.sender ∷ []) in
      let now_listed : listed (senders_of after) m.sender ≡ true =
      ap (λ (l : List Sender). listed l m.sender) grown ∙ listed_more (senders_of before) m.sender m.sender ∙ ap (λ b. listed (senders_of before) m.sender || b) (is_same m.sender m.sender refl) ∙ or-true (listed (senders_of before) m.sender) in
      record {
        senders_are = ap (λ (l : List Sender). l ++ m.sender ∷ []) h.senders_are ∙ sym grown;
        as_many = let more_streams = length-append streams (stream ∷ []) in omega (arith, longer, more_streams, h.as_many);
        distinct = λ i j d less inside same. ⊎_elim
            (λ (early : j < length senders).
            h.distinct i j d less early (sym (get_or_append_left senders (m.sender ∷ []) d i (omega (arith, less, early))) ∙ same ∙ get_or_append_left senders (m.sender ∷ []) d j early))
            (λ (last : length senders ≤ j).
            let at : length senders ≡ j = omega (arith, last, inside, longer) in
            not_listed_at senders m.sender i d (omega (arith, less, at)) new
            (sym (get_or_append_left senders (m.sender ∷ []) d i (omega (arith, less, at))) ∙ same ∙ get_or_at senders m.sender [] d j at))
            (cases_lt j (length senders));
        each = λ i d e inside. ⊎_elim
            (λ (early : i < length senders).
            let sender : get_or (senders ++ m.sender ∷ []) i e ≡ get_or senders i e = get_or_append_left senders (m.sender ∷ []) e i early in
            let state : get_or (streams ++ stream ∷ []) i d ≡ get_or streams i d = get_or_append_left streams (stream ∷ []) d i (omega (arith, early, h.as_many)) in
            subst (λ (u : Sender). IsStreamOf (get_or (streams ++ stream ∷ []) i d) (arrivals_of u after)) (sym sender)
            (subst (λ (t : StreamState). IsStreamOf t (arrivals_of (get_or senders i e) after)) (sym state) (others_stay i d e early (not_listed_at senders m.sender i e early new))))
            (λ (last : length senders ≤ i).
            let at : length senders ≡ i = omega (arith, last, inside, longer) in
            let sender : get_or (senders ++ m.sender ∷ []) i e ≡ m.sender = get_or_at senders m.sender [] e i at in
            let state : get_or (streams ++ stream ∷ []) i d ≡ stream = get_or_at streams stream [] d i (h.as_many ∙ at) in
            subst (λ (u : Sender). IsStreamOf (get_or (streams ++ stream ∷ []) i d) (arrivals_of u after)) (sym sender)
            (subst (λ (t : StreamState). IsStreamOf t (arrivals_of m.sender after)) (sym state)
            (subst (λ (a : List Arrival). IsStreamOf stream a) (sym (own_arrival m.sender m datagram before refl ∙ ap (λ (a : List Arrival). arrival_of m datagram ∷ a) empty)) begun)))
            (cases_lt i (length senders));
        more_is = h.more_is ∙ sym (counted true now_listed ∙ zero-add (unlisted before));
      }

-- Few are of no stream

at_most_one : (b : Bool) → cond b 0 1 ≤ 1
at_most_one true = omega arith
at_most_one false = omega arith

one_at_most : (senders : List Sender) (sender : Option Sender) → one_unlisted senders sender ≤ 1
one_at_most senders None = omega arith
one_at_most senders (Some sender) = at_most_one (listed senders sender)

pub few_unlisted : (heard : List Heard) → unlisted heard ≤ length heard
few_unlisted [] = omega arith
few_unlisted (x ∷ before) =
    let one = one_at_most (senders_of (x ∷ before)) (sender_of x) in
    let rest = few_unlisted before in
    omega (arith, one, rest)

pub no_streams : (senders : List Sender) (streams : List StreamState) → senders ≡ [] → streams ≡ [] → AreStreams senders streams 0 []
no_streams senders streams none nothing = record {
  senders_are = none;
  as_many = ap (λ (t : List StreamState). length t) nothing ∙ sym (ap (λ (t : List Sender). length t) none);
  distinct = λ i j d less inside. let few = ap (λ (t : List Sender). length t) none in absurd (omega (arith, inside, few));
  each = λ i d e inside. let few = ap (λ (t : List Sender). length t) none in absurd (omega (arith, inside, few));
  more_is = refl;
}

-- One more has ended
pub ended_next : (streams : List StreamState) (new : StreamState) (i k : ℕ) (d : StreamState) (s : Summary) → i < length streams
    → (k ≡ i → told new ≡ s) → (k ≢ i → told (get_or streams k d) ≡ s) → told (get_or (set streams i new) k d) ≡ s
ended_next streams new i k d s inside this others = ⊎_elim
    (λ (same : k ≡ i). ap told (ap (λ j. get_or (set streams i new) j d) same ∙ get_or-set_same streams i new d inside) ∙ this same)
    (λ (other : k ≢ i). ap told (get_or-set_other streams i k new d other) ∙ others other)
    (cases_eq k i)
