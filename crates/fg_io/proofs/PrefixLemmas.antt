-- Lemmas on the front of a list of bytes.
use Rattle.std.proofs.Common.{ℕ, List, [], ◌++◌, refl, sym, ap, ◌∙◌, append_assoc, append-nil, take, drop, take-append-drop}
use Rattle.fg_io.specs.Prefix.{IsPrefix}

-- nothing is a prefix of all
pub IsPrefix-nil : (whole : List ℕ) → IsPrefix [] whole
IsPrefix-nil whole = (whole, refl)

-- a list is a prefix of itself
pub IsPrefix-refl : (whole : List ℕ) → IsPrefix whole whole
IsPrefix-refl whole = (([]), sym (append-nil whole))

-- the first bytes of a list are a prefix
pub IsPrefix-take : (n : ℕ) (whole : List ℕ) → IsPrefix (take n whole) whole
IsPrefix-take n whole = (drop n whole, sym (take-append-drop n whole))

-- a prefix of a prefix is a prefix
pub IsPrefix-trans : (part middle whole : List ℕ) → IsPrefix part middle → IsPrefix middle whole → IsPrefix part whole
IsPrefix-trans part middle whole inner outer =
    (inner.0 ++ outer.0, outer.1 ∙ ap (λ bytes. bytes ++ outer.0) inner.1 ∙ append_assoc part inner.0 outer.0)

-- a prefix stays one when more comes after the list
pub IsPrefix-longer : (part whole more : List ℕ) → IsPrefix part whole → IsPrefix part (whole ++ more)
IsPrefix-longer part whole more front = IsPrefix-trans part whole (whole ++ more) front (more, refl)

-- the same bytes before a prefix and before its list
pub IsPrefix-append : (before part whole : List ℕ) → IsPrefix part whole → IsPrefix (before ++ part) (before ++ whole)
IsPrefix-append before part whole front =
    (front.0, ap (λ bytes. before ++ bytes) front.1 ∙ sym (append_assoc before part front.0))
