-- How far a stream was read where a reader stands in it.
use Rattle.std.proofs.Common.{◌≡◌, ℕ, ◌+◌, ◌-◌, ◌*◌, ◌≤◌, true, Bool, Option, None, Some, IfSome, List, [], ◌++◌, length, take, drop, refl, sym, ap, ◌∙◌, arith, length-append, append_assoc}
use Rattle.std.proofs.Math.Nat.{mul_assoc}
use Rattle.std.proofs.lemmas.List.{length-take, length-drop, take-append-drop}
use Rattle.fg_ts.specs.declared.TsFault.TheVariants.{Ragged, NoSync}
use Rattle.fg_encode.specs.declared.stream.StreamFault.TheVariants.{NotTransport, TooLong}
use Rattle.fg_encode.specs.Reading.{ReachesForStream, ReadsAsFar, most_held}
use Rattle.fg_encode.specs.Stream.{StreamEnding}
use Rattle.fg_encode.specs.StreamReader.{EndsHere}
use Rattle.fg_encode.proofs.StreamWalks.{placed_here}

-- How many bytes were read: those before the place, and those held. Where some are held, all before the place were there.
counted :
    (place : ℕ) (bytes held rest : List ℕ) → drop place bytes ≡ held ++ rest
    → (length (take place bytes ++ held) ≤ place + length held)
    × (1 ≤ length held → length (take place bytes ++ held) ≡ place + length held)
counted place bytes held rest split =
    let both = length-append (take place bytes) held in
    let front = length-take place bytes in
    let behind : length bytes - place ≡ length held + length rest =
    sym (length-drop place bytes) ∙ ap (λ (l : List ℕ). length l) split ∙ length-append held rest in
    (omega (arith, both, front), λ some. omega (arith, both, front, behind, some))

-- The kept ending is reached: these bytes were read, and those are left.
module _ (packets max place count : ℕ) (read held rest : List ℕ) (ended : Bool)
    (most : length read ≤ place + length held) (all : 1 ≤ length held → length read ≡ place + length held)
    (placed : 1 ≤ length held → place ≡ 188 * packets * count) (within : place ≤ max) (few : length held ≤ most_held)
    (end : ended ≡ true → rest ≡ []) where
  reaches : (ending : StreamEnding) → EndsHere ending packets max place held ended → ReachesForStream max ending read rest
  reaches None here = end here.1
  reaches (Some (TooLong n)) here =
      let long = length-take (188 * packets) held in
      let some : 1 ≤ length held = omega (arith, long, here.1, within) in
      let whole = all some in
      omega (arith, long, here.1, whole)
  reaches (Some (NotTransport (Ragged n))) here = end here.3
  reaches (Some (NotTransport (NoSync k))) here =
      let long = length-take (188 * packets) held in
      let inside = here.1.2.1.within in
      let some : 1 ≤ length held = omega (arith, long, inside) in
      let whole = all some in
      let there = placed some in
      let product = mul_assoc 188 packets count in
      let is = here.1.1 in
      (omega (arith, long, inside, whole, is), omega (arith, whole, few, there, product, is))

  kept_reaches :
      (kept : Option StreamEnding) → IfSome kept (λ ending. EndsHere ending packets max place held ended)
      → IfSome kept (λ ending. ReachesForStream max ending read rest)
  kept_reaches None here = tt
  kept_reaches (Some ending) here = reaches ending here

pub reads_as_far : ReadsAsFar
reads_as_far reader bytes None payloads stands little = let told : Some (drop reader.place bytes) ≡ None = stands.given in absurd (cc)
reads_as_far reader bytes (Some rest) payloads stands little =
    let told : Some (drop reader.place bytes) ≡ Some (reader.held ++ rest) = stands.given in
    let split : drop reader.place bytes ≡ reader.held ++ rest = cc in
    let read : List ℕ = take reader.place bytes ++ reader.held in
    let long = counted reader.place bytes reader.held rest split in
    let bounded = little.bounded in
    record {
      read = read;
      rest = rest;
      now_is = refl;
      all = sym (take-append-drop reader.place bytes) ∙ ap (λ (t : List ℕ). take reader.place bytes ++ t) split
          ∙ sym (append_assoc (take reader.place bytes) reader.held rest);
      reaches = kept_reaches reader.packets reader.max reader.place (length payloads) read reader.held rest reader.ended long.0 long.1
          (placed_here reader (length payloads) stands.placed) little.within little.few stands.at_end reader.kept little.ending;
      bounded = omega (arith, long.0, bounded);
    }
