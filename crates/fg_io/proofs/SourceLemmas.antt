-- Lemmas on what a source gives.
use Rattle.std.proofs.Common.{◌≡◌, ℕ, Option, None, Some, List, [], ◌++◌, refl, sym, ap, ◌∙◌, append_assoc, append-nil, IfSome}
use Rattle.std.proofs.lemmas.List.{append_cancel_left}
use Rattle.std.specs.Io.KnownBytes.{IsAtEnd, prepend_known}
use Rattle.fg_io.specs.Source.{Gives}

-- a source of which nothing was read
pub Gives-nil : (left : Option (List ℕ)) → Gives left [] left
Gives-nil None = refl
Gives-nil (Some bytes) = refl

-- two reads in a row
pub Gives-trans : (first second third : Option (List ℕ)) (given more : List ℕ) → Gives first given second → Gives second more third → Gives first (given ++ more) third
Gives-trans first second None given more once again = once ∙ ap (prepend_known given) again
Gives-trans first second (Some rest) given more once again =
    once ∙ ap (prepend_known given) again ∙ ap (λ bytes. Some bytes) (sym (append_assoc given more rest))

-- a source that is at its end has given all that was left
pub Gives-all : (before after : Option (List ℕ)) (given : List ℕ) → Gives before given after → IsAtEnd after → IfSome before (λ bytes. bytes ≡ given)
Gives-all None after given gives end = tt
Gives-all (Some bytes) None given gives end = cc
Gives-all (Some bytes) (Some rest) given gives end =
    let whole : bytes ≡ given ++ rest = cc in whole ∙ ap (λ more. given ++ more) end ∙ append-nil given

-- a source tells after it has given bytes where it told before
pub Gives-told : (before after : Option (List ℕ)) (given bytes : List ℕ) → Gives before given after → before ≡ Some bytes
    → (rest : List ℕ) × (after ≡ Some rest) × (bytes ≡ given ++ rest)
Gives-told before None given bytes gives told = cc
Gives-told before (Some rest) given bytes gives told = (rest, refl, (cc))

-- what is left follows from what was left and what was given
pub Gives-once : (before after other : Option (List ℕ)) (given : List ℕ) → Gives before given after → Gives before given other → other ≡ after
Gives-once before None None given gives again = refl
Gives-once before None (Some bytes) given gives again = cc
Gives-once before (Some rest) None given gives again = cc
Gives-once before (Some rest) (Some bytes) given gives again =
    let same : given ++ bytes ≡ given ++ rest = cc in ap (λ left. Some left) (append_cancel_left given bytes rest same)
