-- What is kept of a trace, as records come.
use Rattle.std.proofs.Common.{◌≡◌, ◌≤◌, ℕ, ◌<◌, ◌^◌, List, [], ◌∷◌, ◌++◌, length, refl, sym, ap, ◌∙◌, subst}
use Rattle.std.specs.List.{AllZip}
use Rattle.std.proofs.lemmas.List.{reverse-append}
use Rattle.fg_trace.specs.Trace.{Record}
use Rattle.fg_survey.specs.declared.reading.Reading.{Reading}
use Rattle.fg_survey.specs.declared.sheet.Sheet.{Sheet}
use Rattle.fg_survey.specs.declared.totals.Totals.{Totals}
use Rattle.fg_survey.specs.Heard.{Heard, AreHeard, IsHeard}
use Rattle.fg_survey.specs.declared.reading.Reading.TheVariants.{Media, Parity, Other}
use Rattle.fg_survey.specs.Lanes.{FitsCounts, KeepsLanes}
use Rattle.fg_survey.specs.Reading.{IsReading}
use Rattle.fg_survey.specs.Steps.{ArePorts, IsSheet, KeepsStreams}
use Rattle.fg_survey.specs.Totals.{totals_of}
use Rattle.fg_survey.proofs.Counting.{as_many}

heard_more : (heard : List Heard) (records : List Record) (x : Heard) (r : Record) → AreHeard heard records → IsHeard x r → AreHeard (x ∷ heard) (records ++ r ∷ [])
heard_more heard records x r h k = subst (λ (rs : List Record). AllZip IsHeard (x ∷ heard) rs) (sym (reverse-append records (r ∷ []))) (k, h)

pub sheet_more : (before after : Sheet) (records : List Record) (time port : ℕ) (datagram : List ℕ) (r : Reading) → IsReading datagram r → length datagram < 2 ^ 16
    → (h : IsSheet before records)
    → after.totals ≡ totals_of ((record { time = time; port = port; datagram = datagram; reading = r }) ∷ h.heard)
    → ArePorts after.rows.items ((record { time = time; port = port; datagram = datagram; reading = r }) ∷ h.heard)
    → KeepsStreams after.streams ((record { time = time; port = port; datagram = datagram; reading = r }) ∷ h.heard)
    → KeepsLanes after.lanes ((record { time = time; port = port; datagram = datagram; reading = r }) ∷ h.heard)
    → IsSheet after (records ++ (record { time = time; port = port; datagram = datagram }) ∷ [])
sheet_more before after records time port datagram r read small h totals rows streams lanes = record {
  heard = (record { time = time; port = port; datagram = datagram; reading = r }) ∷ h.heard;
  read = heard_more h.heard records (record { time = time; port = port; datagram = datagram; reading = r }) (record { time = time; port = port; datagram = datagram }) h.read
      (record { time = refl; port = refl; datagram = refl; reading = read });
  sizes = (small, h.sizes);
  totals = totals;
  rows = rows;
  streams = streams;
  lanes = lanes;
}

-- All that a sheet keeps are as many
pub as_many_kept : (sheet : Sheet) (one other : List Record) → IsSheet sheet one → IsSheet sheet other → length one ≡ length other
as_many_kept sheet one other h k =
    sym (as_many h.heard one h.read) ∙ ap (λ (t : Totals). t.records) (sym h.totals ∙ k.totals) ∙ as_many k.heard other k.read

-- A parity datagram's shape is one that is counted
pub fits_counts : (bytes : List ℕ) (r : Reading) → IsReading bytes r → FitsCounts r
fits_counts bytes (Media seq ts ssrc) h = tt
fits_counts bytes Other h = tt
fits_counts bytes (Parity base offset number) h =
    let shape = h.datagram.shape in (
      subst (λ n. 1 ≤ n) (sym h.offset_is) shape.some_offset,
      subst (λ n. n ≤ 20) (sym h.offset_is) shape.offset_limit,
      subst (λ n. 1 ≤ n) (sym h.number_is) shape.some_slot,
      subst (λ n. n ≤ 20) (sym h.number_is) shape.slot_limit,
    )
