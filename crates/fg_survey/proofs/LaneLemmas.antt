-- Lanes, as records come.
use Rattle.std.proofs.Common.{◌≡◌, ◌≢◌, ⊎_elim, ℕ, suc, zero, ◌+◌, ◌<◌, ◌≤◌, Bool, true, false, ◌||◌, ◌&&◌, cond, eqb, Option, Some, None, List, [], ◌∷◌, ◌++◌, length, get_or, set, drop, map, refl, sym, ap, ◌∙◌, subst, arith, length-append, zero-add}
use Rattle.std.specs.Option.{option_or}
use Rattle.std.proofs.Math.Bool.{or-false, or-true, or_assoc}
use Rattle.std.proofs.lemmas.Bool.{cases_Bool, cases_eq, cases_lt, false≢true, ne_eqb, or_parts}
use Rattle.std.proofs.lemmas.Bool.Decides.{eqb_tells}
use Rattle.std.proofs.lemmas.List.{drop_more, get_or-set_same, get_or-set_other, get_or_append_left, get_or_at, length-map, length-set, map-append, map-set, set-get_or}
use Rattle.fg_survey.specs.declared.lanes.Lane.{Lane}
use Rattle.fg_survey.specs.declared.reading.Reading.{Reading}
use Rattle.fg_survey.specs.declared.reading.Reading.TheVariants.{Media as MediaRead, Parity, Other}
use Rattle.fg_survey.specs.declared.senders.Sender.{Sender}
use Rattle.fg_survey.specs.declared.streams.Media.{Media}
use Rattle.fg_survey.specs.declared.streams.Streams.{Streams}
use Rattle.fg_survey.specs.Heard.{Heard, on_port}
use Rattle.fg_survey.specs.Lanes.{AreApart, AreLanes, AreLanesBelow, ArePlaces, IsLane, IsLaneAt, has_port, heard_as, port_of}
use Rattle.fg_survey.specs.Matrix.{Protection, ahead_by, columns_on, has_stream, last_sender, protection_by, protections, rows_on}
use Rattle.fg_survey.specs.Senders.{listed, sender_of, senders_of, unlisted, with_sender}
use Rattle.fg_survey.specs.Steps.{KeepsStreams, media_heard}
use Rattle.fg_survey.specs.Tallies.{IsTally}
use Rattle.fg_survey.proofs.Streaming.{goes_on, is_same, listed_more, same_is, stays_full, stays_listed}

eq_yes : (a b : ℕ) → a ≡ b → eqb a b ≡ true
eq_yes a b same = ⊎_elim (λ (yes : (eqb a b ≡ true) × (a ≡ b)). yes.0) (λ (not_so : (eqb a b ≡ false) × (a ≢ b)). absurd (not_so.1 same)) (eqb_tells a b)

eq_is : (a b : ℕ) → eqb a b ≡ true → a ≡ b
eq_is a b h = ⊎_elim (λ (yes : (eqb a b ≡ true) × (a ≡ b)). yes.1) (λ (not_so : (eqb a b ≡ false) × (a ≢ b)). absurd cc) (eqb_tells a b)

-- Ports

pub has_next : (lanes : List Lane) (port i : ℕ) (d : Lane) → i < length lanes → eqb (get_or lanes i d).port port ≡ false → has_port (map port_of (drop i lanes)) port ≡ has_port (map port_of (drop (i + 1) lanes)) port
has_next lanes port i d within other = ap (λ (t : List Lane). has_port (map port_of t) port) (drop_more lanes i d within) ∙ ap (λ b. b || has_port (map port_of (drop (i + 1) lanes)) port) other

pub has_end : (lanes : List Lane) (port : ℕ) → has_port (map port_of (drop (length lanes) lanes)) port ≡ false
has_end [] port = refl
has_end (l ∷ lanes) port = has_end lanes port

has_at : (ports : List ℕ) (port place : ℕ) → place < length ports → get_or ports place 0 ≡ port → has_port ports port ≡ true
has_at [] port place within is = absurd (omega (arith, within))
has_at (p ∷ ports) port zero within is = ap (λ b. b || has_port ports port) (eq_yes p port is)
has_at (p ∷ ports) port (suc place) within is = ap (λ b. eqb p port || b) (has_at ports port place (omega (arith, within)) is) ∙ or-true (eqb p port)

has_more : (ports : List ℕ) (q port : ℕ) → has_port (ports ++ q ∷ []) port ≡ (has_port ports port || eqb q port)
has_more [] q port = or-false (eqb q port)
has_more (p ∷ ports) q port = ap (λ b. eqb p port || b) (has_more ports q port) ∙ sym (or_assoc (eqb p port) (has_port ports port) (eqb q port))

stream_more : (senders : List Sender) (s : Sender) (port : ℕ) → has_stream (senders ++ s ∷ []) port ≡ (has_stream senders port || eqb s.port port)
stream_more [] s port = or-false (eqb s.port port)
stream_more (t ∷ senders) s port = ap (λ b. eqb t.port port || b) (stream_more senders s port) ∙ sym (or_assoc (eqb t.port port) (has_stream senders port) (eqb s.port port))

-- a sender that is listed has a stream on its port
stream_listed : (senders : List Sender) (s : Sender) → listed senders s ≡ true → has_stream senders s.port ≡ true
stream_listed [] s h = absurd cc
stream_listed (t ∷ senders) s h = ⊎_elim
    (λ (same : (eqb s.port t.port && eqb s.ssrc t.ssrc) ≡ true). ap (λ b. b || has_stream senders s.port) (eq_yes t.port s.port (sym (ap (λ (u : Sender). u.port) (same_is s t same)))))
    (λ (other : (eqb s.port t.port && eqb s.ssrc t.ssrc) ≡ false).
    let rest : listed senders s ≡ true = sym (ap (λ b. b || listed senders s) other) ∙ h in
    ap (λ b. eqb t.port s.port || b) (stream_listed senders s rest) ∙ or-true (eqb t.port s.port))
    (cases_Bool (eqb s.port t.port && eqb s.ssrc t.ssrc))

pub port_at : (lanes : List Lane) (i : ℕ) (d : Lane) → i < length lanes → get_or (map port_of lanes) i 0 ≡ (get_or lanes i d).port
port_at [] i d within = absurd (omega (arith, within))
port_at (l ∷ lanes) zero d within = refl
port_at (l ∷ lanes) (suc i) d within = port_at lanes i d (omega (arith, within))

-- What a record adds

on_same : (port : ℕ) (x : Heard) (before : List Heard) → x.port ≡ port → on_port port (x ∷ before) ≡ x ∷ on_port port before
on_same port x before same = ap (λ b. cond b (x ∷ on_port port before) (on_port port before)) (eq_yes x.port port same)

on_else : (port : ℕ) (x : Heard) (before : List Heard) → x.port ≢ port → on_port port (x ∷ before) ≡ on_port port before
on_else port x before other = ap (λ b. cond b (x ∷ on_port port before) (on_port port before)) (ne_eqb x.port port other)

-- one that is no media datagram leaves the last sender
last_by : (b : Bool) (x : Heard) (heard : List Heard) → sender_of x ≡ None → last_sender (cond b (x ∷ heard) heard) ≡ last_sender heard
last_by true x heard none = ap (λ (o : Option Sender). option_or o (last_sender heard)) none
last_by false x heard none = refl

last_stays : (port : ℕ) (x : Heard) (before : List Heard) → sender_of x ≡ None → last_sender (on_port port (x ∷ before)) ≡ last_sender (on_port port before)
last_stays port x before none = last_by (eqb x.port port) x (on_port port before) none

-- a media datagram protects nothing, and neither does something other
no_media : (port : ℕ) (before : List Heard) (o : Option Sender) (from seq ts ssrc : ℕ) → protection_by port before o from (MediaRead seq ts ssrc) ≡ []
no_media port before None from seq ts ssrc = refl
no_media port before (Some s) from seq ts ssrc = refl

no_other : (port : ℕ) (before : List Heard) (o : Option Sender) (from : ℕ) → protection_by port before o from Other ≡ []
no_other port before None from = refl
no_other port before (Some s) from = refl

media_protects : (media port : ℕ) (m : Media) (datagram : List ℕ) (before : List Heard) → protections media port (media_heard m datagram ∷ before) ≡ protections media port before
media_protects media port m datagram before =
    ap (λ (t : List Protection). t ++ protections media port before) (no_media port before (last_sender (on_port media before)) m.sender.port m.seq m.ts m.sender.ssrc)

other_protects : (media port time from : ℕ) (datagram : List ℕ) (before : List Heard) → protections media port (heard_as time from datagram Other ∷ before) ≡ protections media port before
other_protects media port time from datagram before =
    ap (λ (t : List Protection). t ++ protections media port before) (no_other port before (last_sender (on_port media before)) from)

-- nothing is protected before the first media datagram
rest_none : (o p : Option Sender) → option_or o p ≡ None → p ≡ None
rest_none None p h = h
rest_none (Some s) p h = absurd cc

none_by : (b : Bool) (x : Heard) (heard : List Heard) → last_sender (cond b (x ∷ heard) heard) ≡ None → last_sender heard ≡ None
none_by false x heard h = h
none_by true x heard h = rest_none (sender_of x) (last_sender heard) h

none_protected : (media port : ℕ) (heard : List Heard) → last_sender (on_port media heard) ≡ None → protections media port heard ≡ []
none_protected media port [] h = refl
none_protected media port (x ∷ before) h =
    let none = none_by (eqb x.port media) x (on_port media before) h in
    ap (λ (o : Option Sender). protection_by port before o x.port x.reading ++ protections media port before) none ∙ none_protected media port before none

at_most_one : (b : Bool) (p : Protection) → length (cond b (p ∷ []) []) ≤ 1
at_most_one true p = omega arith
at_most_one false p = omega arith

one_by : (port : ℕ) (before : List Heard) (o : Option Sender) (from : ℕ) (r : Reading) → length (protection_by port before o from r) ≤ 1
one_by port before None from r = omega arith
one_by port before (Some s) from (MediaRead seq ts ssrc) = omega arith
one_by port before (Some s) from (Parity base offset number) = at_most_one (eqb from port) (record { offset = offset; number = number; ahead = ahead_by before base s })
one_by port before (Some s) from Other = omega arith

pub few_protections : (media port : ℕ) (heard : List Heard) → length (protections media port heard) ≤ length heard
few_protections media port [] = omega arith
few_protections media port (x ∷ before) =
    let o = last_sender (on_port media before) in
    let one = one_by port before o x.port x.reading in
    let rest = few_protections media port before in
    let both = length-append (protection_by port before o x.port x.reading) (protections media port before) in
    omega (arith, one, rest, both)

-- A parity datagram and a lane

module _ (lane after : Lane) (before : List Heard) (time port : ℕ) (datagram : List ℕ) (base offset number ahead : ℕ) (h : IsLane lane before)
    (same_port : after.port ≡ lane.port) (same_ssrc : after.ssrc ≡ lane.ssrc) (ahead_is : ahead ≡ ahead_by before base (record { port = lane.port; ssrc = lane.ssrc })) where
  abbrev x : Heard
  x = heard_as time port datagram (Parity base offset number)

  abbrev p : Protection
  p = record { offset = offset; number = number; ahead = ahead }

  adds : (to : ℕ) (b : Bool) → eqb port to ≡ b → protections lane.port to (x ∷ before) ≡ cond b (p ∷ []) [] ++ protections lane.port to before
  adds to b is =
      ap (λ (o : Option Sender). protection_by to before o port (Parity base offset number) ++ protections lane.port to before) h.last
      ∙ ap (λ t. cond t ((record { offset = offset; number = number; ahead = ahead_by before base (record { port = lane.port; ssrc = lane.ssrc }) }) ∷ []) [] ++ protections lane.port to before) is
      ∙ ap (λ n. cond b ((record { offset = offset; number = number; ahead = n }) ∷ []) [] ++ protections lane.port to before) (sym ahead_is)

  lane_is : (columns rows : List Protection) → IsTally after.tally columns rows → columns ≡ columns_on lane.port (x ∷ before) → rows ≡ rows_on lane.port (x ∷ before) → IsLane after (x ∷ before)
  lane_is columns rows tally cs rs =
      let goes : IsTally after.tally (columns_on lane.port (x ∷ before)) (rows_on lane.port (x ∷ before)) =
      subst (λ (t : List Protection). IsTally after.tally (columns_on lane.port (x ∷ before)) t) rs (subst (λ (t : List Protection). IsTally after.tally t rows) cs tally) in
      record {
        last = ap (λ n. last_sender (on_port n (x ∷ before))) same_port ∙ last_stays lane.port x before refl ∙ h.last
            ∙ ap (λ n. Some (record { port = n; ssrc = lane.ssrc })) (sym same_port) ∙ ap (λ n. Some (record { port = after.port; ssrc = n })) (sym same_ssrc);
        tally_is = subst (λ n. IsTally after.tally (columns_on n (x ∷ before)) (rows_on n (x ∷ before))) (sym same_port) goes;
      }

  pub lane_column : port ≡ lane.port + 2 → IsTally after.tally (p ∷ columns_on lane.port before) (rows_on lane.port before) → IsLane after (x ∷ before)
  lane_column is tally = lane_is (p ∷ columns_on lane.port before) (rows_on lane.port before) tally
      (sym (adds (lane.port + 2) true (eq_yes port (lane.port + 2) is))) (sym (adds (lane.port + 4) false (ne_eqb port (lane.port + 4) (λ same. absurd (omega (arith, is, same))))))

  pub lane_row : port ≡ lane.port + 4 → IsTally after.tally (columns_on lane.port before) (p ∷ rows_on lane.port before) → IsLane after (x ∷ before)
  lane_row is tally = lane_is (columns_on lane.port before) (p ∷ rows_on lane.port before) tally
      (sym (adds (lane.port + 2) false (ne_eqb port (lane.port + 2) (λ same. absurd (omega (arith, is, same)))))) (sym (adds (lane.port + 4) true (eq_yes port (lane.port + 4) is)))

  pub lane_other : port ≢ lane.port + 2 → port ≢ lane.port + 4 → IsTally after.tally (columns_on lane.port before) (rows_on lane.port before) → IsLane after (x ∷ before)
  lane_other first second tally = lane_is (columns_on lane.port before) (rows_on lane.port before) tally
      (sym (adds (lane.port + 2) false (ne_eqb port (lane.port + 2) first))) (sym (adds (lane.port + 4) false (ne_eqb port (lane.port + 4) second)))

-- A parity datagram and all lanes

lanes_parity : (old new : List Lane) (before : List Heard) (time port : ℕ) (datagram : List ℕ) (base offset number : ℕ) → map port_of new ≡ map port_of old
    → ((i : ℕ) (d : Lane) → i < length new → IsLane (get_or new i d) (heard_as time port datagram (Parity base offset number) ∷ before))
    → AreLanes old before → AreLanes new (heard_as time port datagram (Parity base offset number) ∷ before)
lanes_parity old new before time port datagram base offset number ports each h = record {
  each = each;
  told = λ p. ap (λ (t : List ℕ). has_port t p) ports ∙ h.told p;
  quiet = λ p none few. last_stays p (heard_as time port datagram (Parity base offset number)) before refl ∙ h.quiet p (ap (λ (t : List ℕ). has_port t p) (sym ports) ∙ none) few;
  distinct = subst (λ (t : List ℕ). (i j : ℕ) → i < j → j < length t → get_or t i 0 ≢ get_or t j 0) (sym ports) h.distinct;
}

-- One lane for another of its port

pub ports_stay : (lanes : List Lane) (place : ℕ) (old new : Lane) → place < length lanes → old ≡ get_or lanes place old → new.port ≡ old.port → map port_of (set lanes place new) ≡ map port_of lanes
ports_stay lanes place old new within is port =
    let at : get_or (map port_of lanes) place 0 ≡ new.port = port_at lanes place old within ∙ ap port_of (sym is) ∙ sym port in
    map-set port_of lanes place new ∙ ap (λ n. set (map port_of lanes) place n) (sym at) ∙ set-get_or (map port_of lanes) place 0

pub places_stay : (places : List ℕ) (old new : List Lane) → map port_of new ≡ map port_of old → ArePlaces places old → ArePlaces places new
places_stay places old new ports h = record {
  all = h.all;
  none = λ p below empty. ap (λ (t : List ℕ). has_port t p) ports ∙ h.none p below empty;
}

its_place : (lanes : List Lane) (port place i : ℕ) (d : Lane) → AreApart lanes → IsLaneAt lanes port place → i < length lanes → (get_or lanes i d).port ≡ port → i ≡ place
its_place lanes port place i d apart found within is =
    let many = length-map lanes port_of in
    let own = port_at lanes i d within ∙ is in
    let at = port_at lanes place d found.within ∙ found.there d in
    ⊎_elim
    (λ (same : i ≡ place). same)
    (λ (other : i ≢ place). ⊎_elim
    (λ (less : i < place). absurd (apart i place less (omega (arith, many, found.within)) (own ∙ sym at)))
    (λ (past : place ≤ i). absurd (apart place i (omega (arith, past, other)) (omega (arith, many, within)) (at ∙ sym own)))
    (cases_lt i place))
    (cases_eq i place)

-- The lanes so many ports below a parity datagram's

pub below_goes : (lanes : List Lane) (place below port media : ℕ) (old new : Lane) (before now : List Heard) → AreApart lanes → IsLaneAt lanes media place → port ≡ media + below
    → old ≡ get_or lanes place old → (IsLane old before → IsLane new now) → AreLanesBelow lanes below port before → AreLanesBelow (set lanes place new) below port now
below_goes lanes place below port media old new before now apart found port_is is goes h = λ i d within there.
    let long = length-set lanes place new in
    let inside : i < length lanes = omega (arith, within, long) in
    ⊎_elim
    (λ (same : i ≡ place).
    subst (λ (l : Lane). IsLane l now) (sym (ap (λ k. get_or (set lanes place new) k d) same ∙ get_or-set_same lanes place new d found.within))
    (goes (subst (λ (l : Lane). IsLane l before) (sym is) (h place old found.within (ap (λ n. n + below) (found.there old) ∙ sym port_is)))))
    (λ (other : i ≢ place).
    let stays : (get_or lanes i d).port + below ≡ port = ap (λ (l : Lane). l.port + below) (sym (get_or-set_other lanes place i new d other)) ∙ there in
    let own : (get_or lanes i d).port ≡ media = omega (arith, stays, port_is) in
    absurd (other (its_place lanes media place i d apart found inside own)))
    (cases_eq i place)

pub none_below : (lanes : List Lane) (below port media : ℕ) (now : List Heard) → has_port (map port_of lanes) media ≡ false → port ≡ media + below → AreLanesBelow lanes below port now
none_below lanes below port media now none port_is = λ i d within there.
    let many = length-map lanes port_of in
    let own : (get_or lanes i d).port ≡ media = omega (arith, there, port_is) in
    absurd (false≢true (sym none ∙ has_at (map port_of lanes) media i (omega (arith, many, within)) (port_at lanes i d within ∙ own)))

as_many_lanes : (one other : List Lane) → map port_of one ≡ map port_of other → length one ≡ length other
as_many_lanes one other same = sym (length-map one port_of) ∙ ap (λ (t : List ℕ). length t) same ∙ length-map other port_of

same_port_at : (one other : List Lane) (i : ℕ) (d : Lane) → map port_of one ≡ map port_of other → i < length one → i < length other → (get_or one i d).port ≡ (get_or other i d).port
same_port_at one other i d same within inside = sym (port_at one i d within) ∙ ap (λ (t : List ℕ). get_or t i 0) same ∙ port_at other i d inside

-- a row's lane isn't a column's
pub rest_below : (old mid : List Lane) (port : ℕ) (before : List Heard) → map port_of mid ≡ map port_of old
    → ((i : ℕ) (d : Lane) → i < length old → (get_or old i d).port + 2 ≢ port → get_or mid i d ≡ get_or old i d)
    → ((i : ℕ) (d : Lane) → i < length old → IsLane (get_or old i d) before) → AreLanesBelow mid 4 port before
rest_below old mid port before ports others each = λ i d within there.
    let long = as_many_lanes mid old ports in
    let inside : i < length old = omega (arith, long, within) in
    let own = same_port_at mid old i d ports within inside in
    subst (λ (l : Lane). IsLane l before) (sym (others i d inside (λ two. absurd (omega (arith, own, there, two))))) (each i d inside)

module _ (old mid new : List Lane) (before : List Heard) (time port : ℕ) (datagram : List ℕ) (base offset number : ℕ)
    (ports : map port_of mid ≡ map port_of old) (more_ports : map port_of new ≡ map port_of mid)
    (others : (i : ℕ) (d : Lane) → i < length old → (get_or old i d).port + 2 ≢ port → get_or mid i d ≡ get_or old i d)
    (columns : AreLanesBelow old 2 port before → AreLanesBelow mid 2 port (heard_as time port datagram (Parity base offset number) ∷ before))
    (more_others : (i : ℕ) (d : Lane) → i < length mid → (get_or mid i d).port + 4 ≢ port → get_or new i d ≡ get_or mid i d)
    (rows : AreLanesBelow mid 4 port before → AreLanesBelow new 4 port (heard_as time port datagram (Parity base offset number) ∷ before))
    (h : AreLanes old before) where
  abbrev after : List Heard
  after = heard_as time port datagram (Parity base offset number) ∷ before

  goes_on_at : (i : ℕ) (d : Lane) → i < length new → IsLane (get_or new i d) after
  goes_on_at i d within =
      let long = as_many_lanes mid old ports in
      let more_long = as_many_lanes new mid more_ports in
      let between : i < length mid = omega (arith, within, more_long) in
      let inside : i < length old = omega (arith, between, long) in
      let own = same_port_at mid old i d ports between inside in
      let later = same_port_at new mid i d more_ports within between in
      let lane = get_or old i d in
      ⊎_elim
      (λ (column : lane.port + 2 ≡ port).
      subst (λ (l : Lane). IsLane l after) (sym (more_others i d between (λ four. absurd (omega (arith, own, column, four)))))
      (columns (λ k e below there. h.each k e below) i d between (omega (arith, own, column))))
      (λ (none : lane.port + 2 ≢ port). ⊎_elim
      (λ (row : (get_or mid i d).port + 4 ≡ port). rows (rest_below old mid port before ports others h.each) i d within (omega (arith, later, row)))
      (λ (neither : (get_or mid i d).port + 4 ≢ port).
      let k = h.each i d inside in
      subst (λ (l : Lane). IsLane l after) (sym (more_others i d between neither ∙ others i d inside none))
      (lane_other lane lane before time port datagram base offset number (ahead_by before base (record { port = lane.port; ssrc = lane.ssrc })) k refl refl refl
      (λ same. none (sym same)) (λ same. neither (omega (arith, own, same))) k.tally_is))
      (cases_eq ((get_or mid i d).port + 4) port))
      (cases_eq (lane.port + 2) port)

  pub lanes_parity_both : AreLanes new after
  lanes_parity_both = lanes_parity old new before time port datagram base offset number (more_ports ∙ ports) goes_on_at h

-- Something other

pub lanes_other : (lanes : List Lane) (before : List Heard) (time port : ℕ) (datagram : List ℕ) → AreLanes lanes before → AreLanes lanes (heard_as time port datagram Other ∷ before)
lanes_other lanes before time port datagram h =
    let x = heard_as time port datagram Other in
    record {
      each = λ i d within.
          let k = h.each i d within in
          let own = (get_or lanes i d).port in
          record {
            last = last_stays own x before refl ∙ k.last;
            tally_is = subst (λ (t : List Protection). IsTally (get_or lanes i d).tally (columns_on own (x ∷ before)) t) (sym (other_protects own (own + 4) time port datagram before))
                (subst (λ (t : List Protection). IsTally (get_or lanes i d).tally t (rows_on own before)) (sym (other_protects own (own + 2) time port datagram before)) k.tally_is);
          };
      told = h.told;
      quiet = λ p none few. last_stays p x before refl ∙ h.quiet p none few;
      distinct = h.distinct;
    }

-- A media datagram

longer : (senders : List Sender) (s : Sender) → length senders ≤ length (with_sender senders (Some s))
longer senders s = ⊎_elim
    (λ (yes : listed senders s ≡ true). let same = ap (λ (t : List Sender). length t) (stays_listed senders s yes) in omega (arith, same))
    (λ (new : listed senders s ≡ false). ⊎_elim
    (λ (room : length senders < 256). let same = ap (λ (t : List Sender). length t) (goes_on senders s new room) in let more = length-append senders (s ∷ []) in omega (arith, same, more))
    (λ (full : 256 ≤ length senders). let same = ap (λ (t : List Sender). length t) (stays_full senders s full) in omega (arith, same))
    (cases_lt (length senders) 256))
    (cases_Bool (listed senders s))

-- a sender on a port that has a stream gives no other port one
stream_stays : (senders : List Sender) (s : Sender) (port : ℕ) → has_stream senders s.port ≡ true → has_stream (with_sender senders (Some s)) port ≡ has_stream senders port
stream_stays senders s port there = ⊎_elim
    (λ (yes : listed senders s ≡ true). ap (λ (t : List Sender). has_stream t port) (stays_listed senders s yes))
    (λ (new : listed senders s ≡ false). ⊎_elim
    (λ (room : length senders < 256). ap (λ (t : List Sender). has_stream t port) (goes_on senders s new room) ∙ stream_more senders s port ∙ ⊎_elim
    (λ (own : eqb s.port port ≡ true).
    let here : has_stream senders port ≡ true = ap (λ n. has_stream senders n) (sym (eq_is s.port port own)) ∙ there in
    ap (λ b. b || eqb s.port port) here ∙ sym here)
    (λ (other : eqb s.port port ≡ false). ap (λ b. has_stream senders port || b) other ∙ or-false (has_stream senders port))
    (cases_Bool (eqb s.port port)))
    (λ (full : 256 ≤ length senders). ap (λ (t : List Sender). has_stream t port) (stays_full senders s full))
    (cases_lt (length senders) 256))
    (cases_Bool (listed senders s))

module _ (lanes : List Lane) (before : List Heard) (m : Media) (datagram : List ℕ) (h : AreLanes lanes before) where
  abbrev now : List Heard
  now = media_heard m datagram ∷ before

  -- another port's lane stays
  stays_at : (l : Lane) → l.port ≢ m.sender.port → IsLane l before → IsLane l now
  stays_at l other k = record {
    last = ap last_sender (on_else l.port (media_heard m datagram) before (λ same. other (sym same))) ∙ k.last;
    tally_is = subst (λ (t : List Protection). IsTally l.tally (columns_on l.port now) t) (sym (media_protects l.port (l.port + 4) m datagram before))
        (subst (λ (t : List Protection). IsTally l.tally t (rows_on l.port before)) (sym (media_protects l.port (l.port + 2) m datagram before)) k.tally_is);
  }

  -- its own port's goes on with this sender
  goes_at : (l : Lane) → l.port ≡ m.sender.port → l.ssrc ≡ m.sender.ssrc → IsTally l.tally (columns_on l.port before) (rows_on l.port before) → IsLane l now
  goes_at l port ssrc tally = record {
    last = ap last_sender (on_same l.port (media_heard m datagram) before (sym port))
        ∙ ap (λ n. Some (record { port = n; ssrc = m.sender.ssrc })) (sym port) ∙ ap (λ n. Some (record { port = l.port; ssrc = n })) (sym ssrc);
    tally_is = subst (λ (t : List Protection). IsTally l.tally (columns_on l.port now) t) (sym (media_protects l.port (l.port + 4) m datagram before))
        (subst (λ (t : List Protection). IsTally l.tally t (rows_on l.port before)) (sym (media_protects l.port (l.port + 2) m datagram before)) tally);
  }

  quiet_still : (p : ℕ) → p ≢ m.sender.port → has_port (map port_of lanes) p ≡ false → length (senders_of now) < 256 → last_sender (on_port p now) ≡ None
  quiet_still p other none few =
      let more = longer (senders_of before) m.sender in
      ap last_sender (on_else p (media_heard m datagram) before (λ same. other (sym same))) ∙ h.quiet p none (omega (arith, more, few))

  -- where its port has a lane
  pub lanes_at : (place : ℕ) (old new : Lane) → IsLaneAt lanes m.sender.port place → old ≡ get_or lanes place old → new.port ≡ old.port → new.ssrc ≡ m.sender.ssrc
      → IsTally new.tally (columns_on old.port before) (rows_on old.port before) → AreLanes (set lanes place new) now
  lanes_at place old new found is port ssrc tally =
      let own : old.port ≡ m.sender.port = ap port_of is ∙ found.there old in
      let at : get_or (map port_of lanes) place 0 ≡ new.port = port_at lanes place old found.within ∙ ap port_of (sym is) ∙ sym port in
      let same : map port_of (set lanes place new) ≡ map port_of lanes = map-set port_of lanes place new ∙ ap (λ n. set (map port_of lanes) place n) (sym at) ∙ set-get_or (map port_of lanes) place 0 in
      let many = length-map lanes port_of in
      let here : has_port (map port_of lanes) m.sender.port ≡ true = has_at (map port_of lanes) m.sender.port place (omega (arith, many, found.within)) (at ∙ port ∙ own) in
      let stream : has_stream (senders_of before) m.sender.port ≡ true = sym (h.told m.sender.port) ∙ here in
      let as_long = length-set lanes place new in
      record {
        each = λ i d within. ⊎_elim
            (λ (at_it : i ≡ place).
            subst (λ (l : Lane). IsLane l now) (sym (ap (λ k. get_or (set lanes place new) k d) at_it ∙ get_or-set_same lanes place new d found.within))
            (goes_at new (port ∙ own) ssrc (subst (λ n. IsTally new.tally (columns_on n before) (rows_on n before)) (sym port) tally)))
            (λ (other : i ≢ place).
            let inside : i < length lanes = omega (arith, within, as_long) in
            let apart : (get_or lanes i d).port ≢ m.sender.port = λ same_port. ⊎_elim
            (λ (less : i < place). h.distinct i place less (omega (arith, many, found.within)) (port_at lanes i d inside ∙ same_port ∙ sym (at ∙ port ∙ own)))
            (λ (past : place ≤ i). h.distinct place i (omega (arith, past, other)) (omega (arith, many, inside)) (at ∙ port ∙ own ∙ sym (port_at lanes i d inside ∙ same_port)))
            (cases_lt i place) in
            subst (λ (l : Lane). IsLane l now) (sym (get_or-set_other lanes place i new d other)) (stays_at (get_or lanes i d) apart (h.each i d inside)))
            (cases_eq i place);
        told = λ p. ap (λ (t : List ℕ). has_port t p) same ∙ h.told p ∙ sym (stream_stays (senders_of before) m.sender p stream);
        quiet = λ p none few.
            let unheld : has_port (map port_of lanes) p ≡ false = ap (λ (t : List ℕ). has_port t p) (sym same) ∙ none in
            quiet_still p (λ it. false≢true (sym unheld ∙ ap (λ n. has_port (map port_of lanes) n) it ∙ here)) unheld few;
        distinct = subst (λ (t : List ℕ). (i j : ℕ) → i < j → j < length t → get_or t i 0 ≢ get_or t j 0) (sym same) h.distinct;
      }

  apart_from : has_port (map port_of lanes) m.sender.port ≡ false → (i : ℕ) (d : Lane) → i < length lanes → (get_or lanes i d).port ≢ m.sender.port
  apart_from none i d within same =
      let many = length-map lanes port_of in
      false≢true (sym none ∙ has_at (map port_of lanes) m.sender.port i (omega (arith, many, within)) (port_at lanes i d within ∙ same))

  -- where it has none, and its stream isn't told
  pub lanes_untold : has_port (map port_of lanes) m.sender.port ≡ false → listed (senders_of now) m.sender ≡ false → AreLanes lanes now
  lanes_untold none untold = ⊎_elim
      (λ (yes : listed (senders_of before) m.sender ≡ true).
      absurd (false≢true (sym untold ∙ ap (λ (t : List Sender). listed t m.sender) (stays_listed (senders_of before) m.sender yes) ∙ yes)))
      (λ (new : listed (senders_of before) m.sender ≡ false). ⊎_elim
      (λ (room : length (senders_of before) < 256).
      absurd (false≢true (sym untold ∙ ap (λ (t : List Sender). listed t m.sender) (goes_on (senders_of before) m.sender new room) ∙ listed_more (senders_of before) m.sender m.sender
      ∙ ap (λ b. listed (senders_of before) m.sender || b) (is_same m.sender m.sender refl) ∙ or-true (listed (senders_of before) m.sender))))
      (λ (full : 256 ≤ length (senders_of before)).
      let same = stays_full (senders_of before) m.sender full in
      record {
        each = λ i d within. stays_at (get_or lanes i d) (apart_from none i d within) (h.each i d within);
        told = λ p. h.told p ∙ ap (λ (t : List Sender). has_stream t p) (sym same);
        quiet = λ p unheld few. let long = ap (λ (t : List Sender). length t) same in absurd (omega (arith, full, few, long));
        distinct = h.distinct;
      })
      (cases_lt (length (senders_of before)) 256))
      (cases_Bool (listed (senders_of before) m.sender))

  -- where it has none, and its stream is told
  pub lanes_new : (lane : Lane) → has_port (map port_of lanes) m.sender.port ≡ false → listed (senders_of now) m.sender ≡ true
      → lane.port ≡ m.sender.port → lane.ssrc ≡ m.sender.ssrc → IsTally lane.tally [] [] → AreLanes (lanes ++ lane ∷ []) now
  lanes_new lane none told port ssrc tally =
      let senders = senders_of before in
      let without : has_stream senders m.sender.port ≡ false = sym (h.told m.sender.port) ∙ none in
      let new : listed senders m.sender ≡ false = ⊎_elim
      (λ (yes : listed senders m.sender ≡ true). absurd (false≢true (sym without ∙ stream_listed senders m.sender yes)))
      (λ (absent : listed senders m.sender ≡ false). absent)
      (cases_Bool (listed senders m.sender)) in
      let room : length senders < 256 = ⊎_elim
      (λ (less : length senders < 256). less)
      (λ (full : 256 ≤ length senders). absurd (false≢true (sym new ∙ ap (λ (t : List Sender). listed t m.sender) (sym (stays_full senders m.sender full)) ∙ told)))
      (cases_lt (length senders) 256) in
      let grown : senders_of now ≡ senders ++ m.sender ∷ [] = goes_on senders m.sender new room in
      let silent : last_sender (on_port lane.port before) ≡ None = ap (λ n. last_sender (on_port n before)) port ∙ h.quiet m.sender.port none room in
      let ports : map port_of (lanes ++ lane ∷ []) ≡ map port_of lanes ++ m.sender.port ∷ [] = map-append port_of lanes (lane ∷ []) ∙ ap (λ n. map port_of lanes ++ n ∷ []) port in
      let many = length-map lanes port_of in
      let more = length-append lanes (lane ∷ []) in
      let more_ports = length-append (map port_of lanes) (m.sender.port ∷ []) in
      record {
        each = λ i d within. ⊎_elim
            (λ (early : i < length lanes).
            subst (λ (l : Lane). IsLane l now) (sym (get_or_append_left lanes (lane ∷ []) d i early)) (stays_at (get_or lanes i d) (apart_from none i d early) (h.each i d early)))
            (λ (last : length lanes ≤ i).
            subst (λ (l : Lane). IsLane l now) (sym (get_or_at lanes lane [] d i (omega (arith, last, within, more))))
            (goes_at lane port ssrc
            (subst (λ (t : List Protection). IsTally lane.tally (columns_on lane.port before) t) (sym (none_protected lane.port (lane.port + 4) before silent))
            (subst (λ (t : List Protection). IsTally lane.tally t []) (sym (none_protected lane.port (lane.port + 2) before silent)) tally))))
            (cases_lt i (length lanes));
        told = λ p. ap (λ (t : List ℕ). has_port t p) ports ∙ has_more (map port_of lanes) m.sender.port p ∙ ap (λ b. b || eqb m.sender.port p) (h.told p)
            ∙ sym (ap (λ (t : List Sender). has_stream t p) grown ∙ stream_more senders m.sender p);
        quiet = λ p unheld few.
            let parts = or_parts (has_port (map port_of lanes) p) (eqb m.sender.port p) (sym (has_more (map port_of lanes) m.sender.port p) ∙ ap (λ (t : List ℕ). has_port t p) (sym ports) ∙ unheld) in
            quiet_still p (λ it. false≢true (sym parts.1 ∙ eq_yes m.sender.port p (sym it))) parts.0 few;
        distinct = subst (λ (t : List ℕ). (i j : ℕ) → i < j → j < length t → get_or t i 0 ≢ get_or t j 0) (sym ports)
            (λ i j less within same. ⊎_elim
            (λ (early : j < length (map port_of lanes)).
            h.distinct i j less early (sym (get_or_append_left (map port_of lanes) (m.sender.port ∷ []) 0 i (omega (arith, less, early))) ∙ same ∙ get_or_append_left (map port_of lanes) (m.sender.port ∷ []) 0 j early))
            (λ (last : length (map port_of lanes) ≤ j).
            let at : length (map port_of lanes) ≡ j = omega (arith, last, within, more_ports) in
            false≢true (sym none ∙ has_at (map port_of lanes) m.sender.port i (omega (arith, less, at))
            (sym (get_or_append_left (map port_of lanes) (m.sender.port ∷ []) 0 i (omega (arith, less, at))) ∙ same ∙ get_or_at (map port_of lanes) m.sender.port [] 0 j at)))
            (cases_lt j (length (map port_of lanes))));
      }

pub no_lanes : AreLanes [] []
no_lanes = record {
  each = λ i d within. absurd (omega (arith, within));
  told = λ p. refl;
  quiet = λ p none few. refl;
  distinct = λ i j less within. absurd (omega (arith, within));
}

pub no_places : (places : List ℕ) → length places ≡ 65536 → ArePlaces places []
no_places places all = record { all = all; none = λ p below empty. refl }

pub lane_there : (lanes : List Lane) (port place : ℕ) → IsLaneAt lanes port place → has_port (map port_of lanes) port ≡ true
lane_there [] port place found = let within = found.within in absurd (omega (arith, within))
lane_there (l ∷ lanes) port place found =
    let many = length-map (l ∷ lanes) port_of in
    let within = found.within in
    has_at (map port_of (l ∷ lanes)) port place (omega (arith, many, within)) (port_at (l ∷ lanes) place l within ∙ found.there l)

pub stays_kept : (s : Streams) (before : List Heard) (time port : ℕ) (datagram : List ℕ) (base offset number : ℕ) → KeepsStreams s (heard_as time port datagram (Parity base offset number) ∷ before) → KeepsStreams s before
stays_kept s before time port datagram base offset number h = record {
  senders_are = h.senders_are;
  as_many = h.as_many;
  distinct = h.distinct;
  each = h.each;
  more_is = h.more_is ∙ zero-add (unlisted before);
}
