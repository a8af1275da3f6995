-- A stream is cut in one way.
use Rattle.std.proofs.Common.{◌≡◌, ⊎_elim, ℕ, ◌+◌, ◌*◌, ◌<◌, ◌≤◌, None, Some, List, length, map, refl, sym, ap, ◌∙◌, arith, subst}
use Rattle.std.specs.List.{range_with_len}
use Rattle.std.proofs.lemmas.Bool.{cases_lt}
use Rattle.fg_ts.specs.declared.TsFault.TheVariants.{Ragged, NoSync}
use Rattle.fg_ts.proofs.PacketLemmas.{one_first}
use Rattle.fg_encode.specs.declared.stream.StreamFault.TheVariants.{NotTransport, TooLong}
use Rattle.fg_encode.specs.Stream.{payload_of, IsAcceptable, StreamEnding, EndsAt, IsCut}

-- Where a stream ends, there is no acceptable payload.
pub refused : (end : StreamEnding) (packets max : ℕ) (bytes : List ℕ) (i : ℕ) → EndsAt end packets max bytes i → IsAcceptable packets max bytes i → ⊥
refused None packets max bytes i h k = omega (arith, h, k.there)
refused (Some (TooLong n)) packets max bytes i h k = k.within h.1
refused (Some (NotTransport (Ragged n))) packets max bytes i h k = h.2.1 k.whole.0 k.whole.1.whole
refused (Some (NotTransport (NoSync n))) packets max bytes i h k =
    let first = h.2.1.1 in first.unsynced (k.whole.1.synced h.2.0 (omega (arith, first.within, k.whole.1.whole)))

one_ending : (e f : StreamEnding) (packets max : ℕ) (bytes : List ℕ) (i : ℕ) → EndsAt e packets max bytes i → EndsAt f packets max bytes i → e ≡ f
one_ending None None packets max bytes i h k = refl
one_ending None (Some (TooLong n)) packets max bytes i h k = absurd (omega (arith, h, k.0))
one_ending None (Some (NotTransport (Ragged n))) packets max bytes i h k = absurd (omega (arith, h, k.0))
one_ending None (Some (NotTransport (NoSync n))) packets max bytes i h k = absurd (omega (arith, h, k.0))
one_ending (Some (TooLong m)) None packets max bytes i h k = absurd (omega (arith, h.0, k))
one_ending (Some (TooLong m)) (Some (TooLong n)) packets max bytes i h k = ap (λ x. Some (TooLong x)) (h.2 ∙ sym k.2)
one_ending (Some (TooLong m)) (Some (NotTransport (Ragged n))) packets max bytes i h k = absurd (k.1 h.1)
one_ending (Some (TooLong m)) (Some (NotTransport (NoSync n))) packets max bytes i h k = absurd (k.1 h.1)
one_ending (Some (NotTransport (Ragged m))) None packets max bytes i h k = absurd (omega (arith, h.0, k))
one_ending (Some (NotTransport (Ragged m))) (Some (TooLong n)) packets max bytes i h k = absurd (h.1 k.1)
one_ending (Some (NotTransport (Ragged m))) (Some (NotTransport (Ragged n))) packets max bytes i h k = ap (λ x. Some (NotTransport (Ragged x))) (h.3 ∙ sym k.3)
one_ending (Some (NotTransport (Ragged m))) (Some (NotTransport (NoSync n))) packets max bytes i h k = absurd (h.2.1 k.2.1.0.0 k.2.1.0.1)
one_ending (Some (NotTransport (NoSync m))) None packets max bytes i h k = absurd (omega (arith, h.0, k))
one_ending (Some (NotTransport (NoSync m))) (Some (TooLong n)) packets max bytes i h k = absurd (h.1 k.1)
one_ending (Some (NotTransport (NoSync m))) (Some (NotTransport (Ragged n))) packets max bytes i h k = absurd (k.2.1 h.2.1.0.0 h.2.1.0.1)
one_ending (Some (NotTransport (NoSync m))) (Some (NotTransport (NoSync n))) packets max bytes i h k =
    let same = one_first (payload_of packets bytes i) h.2.0 k.2.0 h.2.1.1 k.2.1.1 in
    ap (λ x. Some (NotTransport (NoSync x))) (h.2.2 ∙ ap (λ j. packets * i + j) same ∙ sym k.2.2)

pub one_cut : (packets max : ℕ) (bytes : List ℕ) (p q : List (List ℕ)) (e f : StreamEnding) → IsCut packets max bytes p e → IsCut packets max bytes q f → (p ≡ q) × (e ≡ f)
one_cut packets max bytes p q e f h k =
    let same : length p ≡ length q = ⊎_elim
    (λ (lt : length p < length q). absurd (refused e packets max bytes (length p) h.ends (k.first.acceptable (length p) lt)))
    (λ (le : length q ≤ length p). ⊎_elim
    (λ (lt : length q < length p). absurd (refused f packets max bytes (length q) k.ends (h.first.acceptable (length q) lt)))
    (λ (ge : length p ≤ length q). omega arith)
    (cases_lt (length q) (length p)))
    (cases_lt (length p) (length q)) in (
      h.first.cut ∙ ap (λ n. map (payload_of packets bytes) (range_with_len 0 n)) same ∙ sym k.first.cut,
      one_ending e f packets max bytes (length p) h.ends (subst (λ n. EndsAt f packets max bytes n) (sym same) k.ends),
    )
