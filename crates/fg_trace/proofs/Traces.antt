-- Traces as wholes.
use Rattle.std.proofs.Common.{◌≡◌, ℕ, ◌≤◌, List, [], ◌∷◌, ◌++◌, length, sym, ap, ◌∙◌, refl, arith, append_assoc, append-nil}
use Rattle.std.specs.List.{flat_map, AllByRecursion}
use Rattle.std.proofs.lemmas.Grind.{flat_map-append}
use Rattle.fg_trace.specs.Trace.{Record, Fits, spelling, magic, trace_of, StandsFirst, Begins, IsLongest}
use Rattle.fg_trace.proofs.Records.{same_front, one_record, stands_first}

-- what follows the magic
pub after_magic_same : (xs ys : List ℕ) → magic ++ xs ≡ magic ++ ys → xs ≡ ys
after_magic_same xs ys e = (same_front magic magic xs ys refl e).1

last_fits : (rs : List Record) (r : Record) → AllByRecursion Fits (rs ++ r ∷ []) → Fits r
last_fits [] r h = h.0
last_fits (q ∷ rs) r h = last_fits rs r h.1

pub spelled_last : (rs : List Record) (r : Record) → flat_map spelling (rs ++ r ∷ []) ≡ flat_map spelling rs ++ spelling r
spelled_last rs r = flat_map-append spelling rs (r ∷ []) ∙ ap (λ t. flat_map spelling rs ++ t) (append-nil (spelling r))

-- the bytes after the records that a longer trace begins with
pub next_stands : (bytes body rest : List ℕ) (before : List Record) (next : Record) (max : ℕ) → bytes ≡ magic ++ body → body ≡ flat_map spelling before ++ rest → (b : Begins bytes max (before ++ next ∷ [])) → StandsFirst rest next b.rest
next_stands bytes body rest before next max e f b =
    let whole : magic ++ body ≡ magic ++ (flat_map spelling (before ++ next ∷ []) ++ b.rest) = sym e ∙ b.spelled ∙ append_assoc magic (flat_map spelling (before ++ next ∷ [])) b.rest in
    let inner : flat_map spelling before ++ rest ≡ flat_map spelling before ++ (spelling next ++ b.rest) = sym f ∙ after_magic_same _ _ whole ∙ ap (λ t. t ++ b.rest) (spelled_last before next) ∙ append_assoc (flat_map spelling before) (spelling next) b.rest in
    record {
      fits = last_fits before next b.fit;
      spelled = (same_front (flat_map spelling before) (flat_map spelling before) rest _ refl inner).1;
    }

-- no more records are spelled than there are
fewer : (rs others : List Record) (rest : List ℕ) → AllByRecursion Fits rs → AllByRecursion Fits others → flat_map spelling rs ≡ flat_map spelling others ++ rest → length others ≤ length rs
fewer rs [] rest fr fo e = omega arith
fewer [] (o ∷ others) rest fr fo e = absurd (omega (arith, ap length e, ap length (append_assoc (spelling o) (flat_map spelling others) rest)))
fewer (r ∷ rs) (o ∷ others) rest fr fo e =
    let first : StandsFirst (flat_map spelling (r ∷ rs)) o (flat_map spelling others ++ rest) = record { fits = fo.0; spelled = e ∙ append_assoc (spelling o) (flat_map spelling others) rest } in
    let same = one_record _ r o _ _ (stands_first r rs _ fr refl) first in
    let inner = fewer rs others rest fr.1 fo.1 same.1 in
    omega (arith, inner)

-- bytes that are the trace of records have no longer list
pub longest : (bytes : List ℕ) (max : ℕ) (records : List Record) → AllByRecursion Fits records → length bytes ≤ max → bytes ≡ trace_of records → IsLongest bytes max records
longest bytes max records fit within e = record {
  begins = record {
    fit = fit;
    within = omega (arith, within, ap length e);
    rest = [];
    spelled = e ∙ sym (append-nil (trace_of records));
  };
  most = λ others b. fewer records others b.rest fit b.fit (after_magic_same _ _ (sym e ∙ b.spelled ∙ append_assoc magic (flat_map spelling others) b.rest));
}

-- a trace of records more
pub trace_more : (rs ss : List Record) → trace_of (rs ++ ss) ≡ trace_of rs ++ flat_map spelling ss
trace_more rs ss = ap (λ t. magic ++ t) (flat_map-append spelling rs ss) ∙ sym (append_assoc magic (flat_map spelling rs) (flat_map spelling ss))
