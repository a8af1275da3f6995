-- Two words are the same or not.
use Rattle.std.proofs.Common.{◌≡◌, ◌≢◌, ◌⊎◌, ℕ, List, bytes_eq, inl, inr, ap, ◌∙◌, sym, ⊎_elim, true≢false}
use Rattle.std.proofs.lemmas.Bool.{cases_eq, cases_Bool}
use Rattle.std.proofs.lemmas.Slice.Eq.{bytes_eq-Decides}
use Rattle.fg_words.specs.declared.Word.{Word}
use Rattle.fg_words.proofs.WordLemmas.{word-ext}

same_bytes : (xs ys : List ℕ) → (xs ≡ ys) ⊎ (xs ≢ ys)
same_bytes xs ys =
    let decides = bytes_eq-Decides xs ys in
    ⊎_elim
    (λ yes. inl (decides.0 yes))
    (λ no. inr (λ same. true≢false (sym (decides.1 same) ∙ no)))
    (cases_Bool (bytes_eq xs ys))

pub same_or_other : (a b : Word) → (a ≡ b) ⊎ (a ≢ b)
same_or_other a b = ⊎_elim
    (λ pt. ⊎_elim
    (λ ts. ⊎_elim
    (λ len. ⊎_elim
    (λ bytes. inl (word-ext a b pt ts len bytes))
    (λ n. inr (λ same. n (ap (λ (w : Word). w.bytes) same)))
    (same_bytes a.bytes b.bytes))
    (λ n. inr (λ same. n (ap (λ (w : Word). w.len) same)))
    (cases_eq a.len b.len))
    (λ n. inr (λ same. n (ap (λ (w : Word). w.ts) same)))
    (cases_eq a.ts b.ts))
    (λ n. inr (λ same. n (ap (λ (w : Word). w.pt) same)))
    (cases_eq a.pt b.pt)
