-- Whether the next record is held.
use Rattle.std.proofs.Common.{◌≡◌, ℕ, ◌+◌, ◌-◌, ◌≤◌, ◌++◌, Bool, false, Option, None, Some, List, length, take, drop, sym, ap, ◌∙◌, refl, subst, arith, length-append}
use Rattle.std.specs.Prelude.{◌↔◌, IsTrue, is_some}
use Rattle.std.proofs.lemmas.List.{length-drop, take_at, drop_at}
use Rattle.std.proofs.lemmas.Slice.{between_to_end}
use Rattle.fg_io.specs.InputBuffer.{InputState}
use Rattle.fg_trace.specs.Header.{IsHeader}
use Rattle.fg_trace.specs.Trace.{Record, StandsFirst, spelling}
use Rattle.fg_trace.specs.Reader.{Answer, ReaderState}
use Rattle.fg_trace.specs.Reading.{HoldsNext}
use Rattle.fg_trace.specs.Walk.{HoldsRecord, reader_of}
use Rattle.fg_trace.proofs.Records.{header_same, spelling_by_header}
use Rattle.fg_trace.proofs.Walking.{front_record, length_spelling}

-- the record that stands first has the numbers of the header
pub header_of : (held : List ℕ) (time port size : ℕ) (r : Record) (rest : List ℕ) → IsHeader held time port size → StandsFirst held r rest
    → (time ≡ r.time) × (port ≡ r.port) × (size ≡ length r.datagram)
header_of held time port size r rest h k =
    let same = header_same time port size r.time r.port (length r.datagram) h.rest (r.datagram ++ rest) h.time_fits h.port_fits h.size_fits k.fits.time k.fits.port k.fits.size
    (sym h.spelled ∙ k.spelled ∙ spelling_by_header r rest) in
    (same.0, same.1, same.2)

-- a record that stands first has a header, and is whole
pub record_first : (max place : ℕ) (held : List ℕ) (r : Record) (rest : List ℕ) → StandsFirst held r rest → place + length (spelling r) ≤ max → HoldsRecord max place held r.time r.port (length r.datagram)
record_first max place held r rest h within = record {
  header = record {
    rest = r.datagram ++ rest;
    spelled = h.spelled ∙ spelling_by_header r rest;
    time_fits = h.fits.time;
    port_fits = h.fits.port;
    size_fits = h.fits.size;
  };
  whole = omega (arith, ap length h.spelled, length-append (spelling r) rest, length_spelling r);
  within = omega (arith, within, length_spelling r);
}

not_some : (kept : Option Answer) → false ≡ is_some kept → kept ≡ None
not_some None e = refl
not_some (Some answer) e = absurd cc

-- so many bytes stand behind what was answered
told_behind : (input : InputState) (answered n size : ℕ) (b : Bool) → n ≡ size → answered ≤ length input.held
    → (IsTrue b ↔ ((answered + 12 + n ≤ length input.held) × (input.place + (answered + 12 + n) ≤ input.max)))
    → IsTrue b ↔ ((12 + size ≤ length (drop answered input.held)) × (input.place + answered + (12 + size) ≤ input.max))
told_behind input answered n size b is held tells = (
  λ yes. let fits = tells.0 yes in (omega (arith, fits.0, is, length-drop answered input.held), omega (arith, fits.1, is)),
  λ fits. tells.1 (omega (arith, fits.0, is, held, length-drop answered input.held), omega (arith, fits.1, is)),
)

-- the next record is held where the header's size is, and within the limit
held_by_size : (reader : ReaderState) (b : Bool) (time port size : ℕ) → reader.kept ≡ None → IsHeader reader.held time port size
    → (IsTrue b ↔ ((12 + size ≤ length reader.held) × (reader.place + (12 + size) ≤ reader.max))) → IsTrue b ↔ HoldsNext reader
held_by_size reader b time port size none h tells = (
  λ yes.
      let fits = tells.0 yes in
      let front = front_record reader.held time port size h fits.0 in
      record {
        going = none;
        next = record { time = time; port = port; datagram = take size (drop 12 reader.held) };
        rest = drop (12 + size) reader.held;
        stands = front.0;
        within = omega (arith, fits.1, front.1, length_spelling (record { time = time; port = port; datagram = take size (drop 12 reader.held) }));
      },
  λ k.
      let all = record_first reader.max reader.place reader.held k.next k.rest k.stands k.within in
      let same = header_of reader.held time port size k.next k.rest h k.stands in
      tells.1 (omega (arith, all.whole, same.2), omega (arith, all.within, same.2)),
)

-- the header was read behind what was answered
pub next_is_held : (reader : ReaderState) (input : InputState) (answered : ℕ) (started : Bool) (kept : Option Answer) (bytes : List ℕ) (b : Bool) (time port size n : ℕ)
    → reader_of input answered started kept ≡ reader → answered ≤ length input.held → false ≡ is_some kept → bytes ≡ input.held → IsHeader (take (length bytes - answered) (drop answered bytes)) time port size → n ≡ size
    → (IsTrue b ↔ ((answered + 12 + n ≤ length input.held) × (input.place + (answered + 12 + n) ≤ input.max))) → IsTrue b ↔ HoldsNext reader
next_is_held reader input answered started kept bytes b time port size n view held none same h is tells =
    let behind : take (length bytes - answered) (drop answered bytes) ≡ drop answered input.held = between_to_end bytes answered (length bytes) (omega arith) ∙ ap (drop answered) same in
    subst (λ (t : ReaderState). IsTrue b ↔ HoldsNext t) view
    (held_by_size (reader_of input answered started kept) b time port size (not_some kept none) (subst (λ t. IsHeader t time port size) behind h) (told_behind input answered n size b is held tells))

-- the next record stands at the front once what was answered is stepped over
pub next_stands_first : (reader : ReaderState) (input stepped : InputState) (answered : ℕ) (started : Bool) (kept : Option Answer) → reader_of input answered started kept ≡ reader
    → (let next : InputState = record input { place = input.place + answered; held = drop answered input.held } in stepped ≡ next)
    → (h : HoldsNext reader) → StandsFirst stepped.held h.next h.rest × HoldsRecord stepped.max stepped.place stepped.held h.next.time h.next.port (length h.next.datagram)
next_stands_first reader input stepped answered started kept view step h =
    let held : stepped.held ≡ reader.held = ap (λ (t : InputState). t.held) step ∙ ap (λ (t : ReaderState). t.held) view in
    let place : stepped.place ≡ reader.place = ap (λ (t : InputState). t.place) step ∙ ap (λ (t : ReaderState). t.place) view in
    let max : stepped.max ≡ reader.max = ap (λ (t : InputState). t.max) step ∙ ap (λ (t : ReaderState). t.max) view in
    let stands : StandsFirst stepped.held h.next h.rest = subst (λ t. StandsFirst t h.next h.rest) (sym held) h.stands in
    (stands, record_first stepped.max stepped.place stepped.held h.next h.rest stands (omega (arith, h.within, place, max)))

-- what is left of a record that stands first
pub first_parts : (held : List ℕ) (r : Record) (rest : List ℕ) (n : ℕ) → n ≡ length r.datagram → StandsFirst held r rest → (drop 12 (take (12 + n) held) ≡ r.datagram) × (drop (12 + n) held ≡ rest)
first_parts held r rest n is h =
    let size : length (spelling r) ≡ 12 + n = omega (arith, is, length_spelling r) in (
      ap (λ t. drop 12 (take (12 + n) t)) h.spelled ∙ ap (drop 12) (take_at (spelling r) rest (12 + n) size),
      ap (drop (12 + n)) h.spelled ∙ drop_at (spelling r) rest (12 + n) size,
    )
