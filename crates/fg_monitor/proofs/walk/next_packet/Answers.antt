use Rattle.std.proofs.Common.{◌≡◌, ◌≤◌, ◌<◌, ◌∙◌, ℕ, List, Bor, MatchOption, Option, Some, length, take, sym, subst, ap, arith}
use Rattle.std.specs.Array.{IsFirstChunk}
use Rattle.std.proofs.lemmas.List.{length-take, take_all}
use Rattle.fg_monitor.proofs.walk.next_packet.Goals as goal

long : (held front : List ℕ) → front ≡ held → 188 ≤ length held → length (take 188 front) ≡ 188
long held front is whole = omega (arith, length-take 188 front, ap (λ (l : List ℕ). length l) is)

chunk : (front : List ℕ) (found : Option (Bor (List ℕ))) (packet : Bor (List ℕ)) → found ≡ Some packet
    → MatchOption found (length front < 188) (λ (b : Bor (List ℕ)). IsFirstChunk front b.now 188) → packet.now ≡ take 188 front
chunk front found packet is h =
    let first = subst (λ (o : Option (Bor (List ℕ))). MatchOption o (length front < 188) (λ (b : Bor (List ℕ)). IsFirstChunk front b.now 188)) is h in
    first.same

pub slice_bounds-first_chunk-end : goal.slice_bounds-first_chunk-end
slice_bounds-first_chunk-end c = sym (long c.args.input.now.held c.held-held.result.now c.held-held.ensures.value c.requires)

pub unwrap-requires : goal.unwrap-requires
unwrap-requires c =
    let whole = long c.args.input.now.held c.held-held.result.now c.held-held.ensures.value c.requires in
    c.first_chunk.ensures.variant.1 (omega arith)

pub returns : goal.returns
returns c =
    let whole = long c.args.input.now.held c.held-held.result.now c.held-held.ensures.value c.requires in
    chunk (take 188 c.held-held.result.now) c.first_chunk.result c.unwrap.result c.unwrap.ensures c.first_chunk.ensures.cases
    ∙ take_all 188 (take 188 c.held-held.result.now) (omega arith) ∙ ap (λ (l : List ℕ). take 188 l) c.held-held.ensures.value
