-- Marks of PIDs.
use Rattle.std.proofs.Common.{◌≡◌, ◌≢◌, ⊎_elim, ℕ, ◌+◌, ◌*◌, ◌<◌, Bool, true, false, ◌||◌, eqb, List, length, drop, get_or, set, replicate, refl, sym, ap, ◌∙◌, subst, add-one}
use Rattle.std.proofs.lemmas.Bool.Decides.{eqb_tells}
use Rattle.std.proofs.lemmas.List.{get_or-set_same, get_or-set_other, get_or-replicate, length-replicate}
use Rattle.fg_ts.specs.Fields.{pid_of}
use Rattle.fg_streams.specs.Packets.{carries, pid_limit}
use Rattle.fg_streams.specs.Steps.{AreMarks}

pub limit : pid_limit ≡ 8192
unfolding pid_limit
limit = refl

carries_more : (payload : List ℕ) (p n : ℕ) → carries payload p (n + 1) ≡ (eqb (pid_of (drop (188 * n) payload)) p || carries payload p n)
carries_more payload p n = ap (λ k. carries payload p k) (add-one n)

pub mark_more : (marks old : List Bool) (payload : List ℕ) (n q p : ℕ) → q < length marks → q ≡ pid_of (drop (188 * n) payload)
    → get_or marks p false ≡ (carries payload p n || get_or old p false)
    → get_or (set marks q true) p false ≡ (carries payload p (n + 1) || get_or old p false)
mark_more marks old payload n q p within is h = ⊎_elim
    (λ (here : (eqb (pid_of (drop (188 * n) payload)) p ≡ true) × (pid_of (drop (188 * n) payload) ≡ p)).
    let same : q ≡ p = is ∙ here.1 in
    subst (λ k. get_or (set marks q true) k false ≡ true) same (get_or-set_same marks q true false within)
    ∙ sym (ap (λ b. b || get_or old p false) (carries_more payload p n ∙ ap (λ b. b || carries payload p n) here.0)))
    (λ (other : (eqb (pid_of (drop (188 * n) payload)) p ≡ false) × (pid_of (drop (188 * n) payload) ≢ p)).
    get_or-set_other marks q p true false (λ same. other.1 (sym is ∙ sym same))
    ∙ h ∙ sym (ap (λ b. b || get_or old p false) (carries_more payload p n ∙ ap (λ b. b || carries payload p n) other.0)))
    (eqb_tells (pid_of (drop (188 * n) payload)) p)

marks_at : (n p : ℕ) → p < n → get_or (replicate n false) p false ≡ false
marks_at n p h = get_or-replicate n p false false h

pub unmarked : (marks : List Bool) → marks ≡ replicate 8192 false → AreMarks marks (λ pid. false)
unmarked marks is = record {
  all = ap length is ∙ length-replicate 8192 false ∙ sym limit;
  each = λ pid below. ap (λ m. get_or m pid false) is ∙ marks_at 8192 pid (subst (λ n. pid < n) limit below);
}
