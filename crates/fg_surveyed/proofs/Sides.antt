-- What one sender's media datagrams and the parity beside them show.
use Rattle.std.proofs.Common.{◌≡◌, ◌⊎◌, inl, inr, ℕ, ◌+◌, ◌<◌, ◌≤◌, Bool, true, false, cond, eqb, leb, ◌&&◌, ◌||◌, Option, Some, None, List, [], ◌∷◌, ◌++◌, length, refl, sym, ap, ◌∙◌, subst, arith, drop, length-append}
use Rattle.std.specs.Option.{option_or}
use Rattle.std.specs.List.{AllByRecursion}
use Rattle.std.proofs.lemmas.Bool.{eq-eqb, eqb-true}
use Rattle.fg_rtp.specs.Header.{header_length}
use Rattle.fg_streams.specs.Arrival.{Arrival}
use Rattle.fg_survey.specs.declared.reading.Reading.{Reading}
use Rattle.fg_survey.specs.declared.reading.Reading.TheVariants.{Media, Parity}
use Rattle.fg_survey.specs.declared.senders.Sender.{Sender}
use Rattle.fg_survey.specs.Heard.{Heard, on_port}
use Rattle.fg_survey.specs.Matrix.{Protection, ahead_by, last_sender, protection_by, protections}
use Rattle.fg_survey.specs.Senders.{arrival_by, arrivals_of, listed, one_unlisted, same_sender, sender_in, sender_of, senders_limit, senders_of, unlisted, with_sender}
use Rattle.fg_surveyed.proofs.Shapes.{IsOf}

-- A parity datagram beside the media on this port: a column's or a row's, of these columns and rows.
pub record IsSide (port w h : ℕ) (x : Heard) : Type 0 where
  pub base : ℕ
  pub offset : ℕ
  pub number : ℕ
  pub reading : x.reading ≡ Parity base offset number
  pub apart : eqb x.port port ≡ false
  pub column : x.port ≡ port + 2 → (offset ≡ w) × (number ≡ h)
  pub row : x.port ≡ port + 4 → (offset ≡ 1) × (number ≡ w)

-- A media datagram of this sender.
pub record IsMediaOf (s : Sender) (seq : ℕ) (x : Heard) : Type 0 where
  pub ts : ℕ
  pub reading : x.reading ≡ Media seq ts s.ssrc
  pub port : x.port ≡ s.port

apart_by : (b : Bool) (x : Heard) (xs : List Heard) → b ≡ false → cond b (x ∷ xs) xs ≡ xs
apart_by b x xs out = ap (λ c. cond c (x ∷ xs) xs) out

there_by : (b : Bool) (x : Heard) (xs : List Heard) → b ≡ true → cond b (x ∷ xs) xs ≡ x ∷ xs
there_by b x xs within = ap (λ c. cond c (x ∷ xs) xs) within

module _ (s : Sender) (w h : ℕ) where
  -- Parity alone changes nothing.

  pub sides_arrive : (sides xs : List Heard) → AllByRecursion (IsSide s.port w h) sides → arrivals_of s (sides ++ xs) ≡ arrivals_of s xs
  sides_arrive [] xs all = refl
  sides_arrive (x ∷ sides) xs all =
      ap (λ (r : Reading). arrival_by s x.time x.port x.datagram r ++ arrivals_of s (sides ++ xs)) all.0.reading ∙ sides_arrive sides xs all.1

  pub sides_send : (sides xs : List Heard) → AllByRecursion (IsSide s.port w h) sides → senders_of (sides ++ xs) ≡ senders_of xs
  sides_send [] xs all = refl
  sides_send (x ∷ sides) xs all =
      ap (λ (r : Reading). with_sender (senders_of (sides ++ xs)) (sender_in x.port r)) all.0.reading ∙ sides_send sides xs all.1

  pub sides_listed : (sides xs : List Heard) → AllByRecursion (IsSide s.port w h) sides → unlisted (sides ++ xs) ≡ unlisted xs
  sides_listed [] xs all = refl
  sides_listed (x ∷ sides) xs all =
      let none : one_unlisted (senders_of (x ∷ (sides ++ xs))) (sender_in x.port x.reading) ≡ 0 =
      ap (λ (r : Reading). one_unlisted (senders_of (x ∷ (sides ++ xs))) (sender_in x.port r)) all.0.reading in
      let rest = sides_listed sides xs all.1 in
      omega (arith, none, rest)

  pub sides_last : (sides xs : List Heard) → AllByRecursion (IsSide s.port w h) sides → last_sender (on_port s.port (sides ++ xs)) ≡ last_sender (on_port s.port xs)
  sides_last [] xs all = refl
  sides_last (x ∷ sides) xs all =
      ap (λ (ys : List Heard). last_sender ys) (apart_by (eqb x.port s.port) x (on_port s.port (sides ++ xs)) all.0.apart) ∙ sides_last sides xs all.1

  -- A media datagram

  module _ (seq : ℕ) (x : Heard) (is : IsMediaOf s seq x) where
    abbrev pub arrival : Arrival
    arrival = record { time = x.time; seq = seq; ts = is.ts; payload = drop header_length x.datagram }

    own : eqb x.port s.port ≡ true
    own = eq-eqb x.port s.port is.port

    both_own : (eqb x.port s.port && eqb s.ssrc s.ssrc) ≡ true
    both_own = ap (λ b. b && eqb s.ssrc s.ssrc) own ∙ eq-eqb s.ssrc s.ssrc refl

    sender_is : sender_of x ≡ Some s
    sender_is =
        ap (λ (r : Reading). sender_in x.port r) is.reading
        ∙ ap (λ (p : ℕ). Some (let one : Sender = record { port = p; ssrc = s.ssrc } in one)) is.port

    pub media_arrives : (xs : List Heard) → arrivals_of s (x ∷ xs) ≡ arrival ∷ arrivals_of s xs
    media_arrives xs =
        ap (λ (r : Reading). arrival_by s x.time x.port x.datagram r ++ arrivals_of s xs) is.reading
        ∙ ap (λ (b : Bool). cond b (arrival ∷ []) [] ++ arrivals_of s xs) both_own

    same_own : same_sender s s ≡ true
    same_own = ap (λ b. b && eqb s.ssrc s.ssrc) (eq-eqb s.port s.port refl) ∙ eq-eqb s.ssrc s.ssrc refl

    is_listed : listed (s ∷ []) s ≡ true
    is_listed = ap (λ b. b || false) same_own

    pub media_sends : (xs : List Heard) → (senders_of xs ≡ []) ⊎ (senders_of xs ≡ s ∷ []) → senders_of (x ∷ xs) ≡ s ∷ []
    media_sends xs (inl none) =
        ap (λ (o : Option Sender). with_sender (senders_of xs) o) sender_is ∙ ap (λ (l : List Sender). with_sender l (Some s)) none
    media_sends xs (inr one) =
        ap (λ (o : Option Sender). with_sender (senders_of xs) o) sender_is ∙ ap (λ (l : List Sender). with_sender l (Some s)) one
        ∙ ap (λ (b : Bool). cond (b || leb senders_limit 1) (s ∷ []) (s ∷ s ∷ [])) is_listed

    pub media_listed : (xs : List Heard) → senders_of (x ∷ xs) ≡ s ∷ [] → unlisted (x ∷ xs) ≡ unlisted xs
    media_listed xs one =
        let none : one_unlisted (senders_of (x ∷ xs)) (sender_of x) ≡ 0 =
        ap (λ (o : Option Sender). one_unlisted (senders_of (x ∷ xs)) o) sender_is ∙ ap (λ (l : List Sender). one_unlisted l (Some s)) one
        ∙ ap {B = ℕ} (λ (b : Bool). cond b 0 1) is_listed in
        omega (arith, none)

    pub media_last : (xs : List Heard) → last_sender (on_port s.port (x ∷ xs)) ≡ Some s
    media_last xs =
        ap (λ (ys : List Heard). last_sender ys) (there_by (eqb x.port s.port) x (on_port s.port xs) own)
        ∙ ap (λ (o : Option Sender). option_or o (last_sender (on_port s.port xs))) sender_is

    none_by : (from : ℕ) (xs : List Heard) (o : Option Sender) → protection_by from xs o x.port (Media seq is.ts s.ssrc) ++ protections s.port from xs ≡ protections s.port from xs
    none_by from xs None = refl
    none_by from xs (Some t) = refl

    pub media_protects : (from : ℕ) (xs : List Heard) → protections s.port from (x ∷ xs) ≡ protections s.port from xs
    media_protects from xs =
        ap (λ (r : Reading). protection_by from xs (last_sender (on_port s.port xs)) x.port r ++ protections s.port from xs) is.reading
        ∙ none_by from xs (last_sender (on_port s.port xs))

  -- Parity shows its shape.

  shape_by : (W H offset number ahead : ℕ) (b : Bool) (rest : List Protection) → (b ≡ true → (offset ≡ W) × (number ≡ H)) → AllByRecursion (IsOf W H) rest
      → AllByRecursion (IsOf W H) (cond b ((let p : Protection = record { offset = offset; number = number; ahead = ahead } in p) ∷ []) [] ++ rest)
  shape_by W H offset number ahead true rest is all = (record { offset_is = (is refl).0; number_is = (is refl).1 }, all)
  shape_by W H offset number ahead false rest is all = all

  shapes_by : (W H from port base offset number : ℕ) (xs : List Heard) (o : Option Sender) (rest : List Protection) → (port ≡ from → (offset ≡ W) × (number ≡ H))
      → AllByRecursion (IsOf W H) rest → AllByRecursion (IsOf W H) (protection_by from xs o port (Parity base offset number) ++ rest)
  shapes_by W H from port base offset number xs None rest is all = all
  shapes_by W H from port base offset number xs (Some t) rest is all =
      shape_by W H offset number (ahead_by xs base t) (eqb port from) rest (λ there. is (eqb-true port from there)) all

  side_shapes : (W H from : ℕ) (x : Heard) (xs : List Heard) (side : IsSide s.port w h x) → (x.port ≡ from → (side.offset ≡ W) × (side.number ≡ H))
      → AllByRecursion (IsOf W H) (protections s.port from xs) → AllByRecursion (IsOf W H) (protections s.port from (x ∷ xs))
  side_shapes W H from x xs side is all =
      subst (λ (r : Reading). AllByRecursion (IsOf W H) (protection_by from xs (last_sender (on_port s.port xs)) x.port r ++ protections s.port from xs)) (sym side.reading)
      (shapes_by W H from x.port side.base side.offset side.number xs (last_sender (on_port s.port xs)) (protections s.port from xs) is all)

  pub columns_shape : (sides xs : List Heard) → AllByRecursion (IsSide s.port w h) sides → AllByRecursion (IsOf w h) (protections s.port (s.port + 2) xs)
      → AllByRecursion (IsOf w h) (protections s.port (s.port + 2) (sides ++ xs))
  columns_shape [] xs all before = before
  columns_shape (x ∷ sides) xs all before = side_shapes w h (s.port + 2) x (sides ++ xs) all.0 all.0.column (columns_shape sides xs all.1 before)

  pub rows_shape : (sides xs : List Heard) → AllByRecursion (IsSide s.port w h) sides → AllByRecursion (IsOf 1 w) (protections s.port (s.port + 4) xs)
      → AllByRecursion (IsOf 1 w) (protections s.port (s.port + 4) (sides ++ xs))
  rows_shape [] xs all before = before
  rows_shape (x ∷ sides) xs all before = side_shapes 1 w (s.port + 4) x (sides ++ xs) all.0 all.0.row (rows_shape sides xs all.1 before)

  -- One that comes behind a media datagram is counted.
  pub column_counts : (x : Heard) (xs : List Heard) → IsSide s.port w h x → x.port ≡ s.port + 2 → last_sender (on_port s.port xs) ≡ Some s
      → 0 < length (protections s.port (s.port + 2) (x ∷ xs))
  column_counts x xs side there last =
      let from = s.port + 2 in
      let one = λ (ahead : ℕ). let p : Protection = record { offset = side.offset; number = side.number; ahead = ahead } in p in
      let is : protections s.port from (x ∷ xs) ≡ one (ahead_by xs side.base s) ∷ protections s.port from xs =
      ap (λ (r : Reading). protection_by from xs (last_sender (on_port s.port xs)) x.port r ++ protections s.port from xs) side.reading
      ∙ ap (λ (o : Option Sender). protection_by from xs o x.port (Parity side.base side.offset side.number) ++ protections s.port from xs) last
      ∙ ap (λ (b : Bool). cond b (one (ahead_by xs side.base s) ∷ []) [] ++ protections s.port from xs) (eq-eqb x.port from there) in
      let long = ap (λ (ps : List Protection). length ps) is in
      omega (arith, long)

-- What comes later takes none away.
pub more_counts : (media from : ℕ) (xs ys : List Heard) → length (protections media from ys) ≤ length (protections media from (xs ++ ys))
more_counts media from [] ys = omega arith
more_counts media from (x ∷ xs) ys =
    let rest = more_counts media from xs ys in
    let both = length-append (protection_by from (xs ++ ys) (last_sender (on_port media (xs ++ ys))) x.port x.reading) (protections media from (xs ++ ys)) in
    omega (arith, rest, both)
