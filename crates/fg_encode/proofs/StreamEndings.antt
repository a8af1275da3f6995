-- What a fault of the next payload says of the reader.
use Rattle.std.proofs.Common.{◌≡◌, ⊎_elim, ℕ, ◌+◌, ◌*◌, ◌/◌, ◌<◌, ◌≤◌, List, Some, length, take, refl, ap, ◌∙◌, arith, subst}
use Rattle.std.proofs.lemmas.Bool.{cases_lt}
use Rattle.std.proofs.lemmas.List.{take_all, length-take}
use Rattle.fg_ts.specs.declared.TsFault.{TsFault}
use Rattle.fg_ts.specs.declared.TsFault.TheVariants.{Ragged, NoSync}
use Rattle.fg_ts.specs.Packets.{FirstFault}
use Rattle.fg_encode.specs.declared.stream.StreamFault.TheVariants.{NotTransport}
use Rattle.fg_encode.specs.StreamReader.{StreamState, EndsHere}
use Rattle.fg_encode.specs.StreamSteps.{HoldsEnough, fault_from}

ragged_here : (reader : StreamState) (next : List ℕ) (place size : ℕ) → place ≡ reader.place → next ≡ take (188 * reader.packets) reader.held → FirstFault (Ragged size) next → reader.place + length next ≤ reader.max → HoldsEnough reader
    → EndsHere (Some (NotTransport (Ragged (place + size)))) reader.packets reader.max reader.place reader.held reader.ended
ragged_here reader next place size there is fault within enough =
    let counted : length next ≡ length (take (188 * reader.packets) reader.held) = ap length is in
    let long = length-take (188 * reader.packets) reader.held in
    ⊎_elim
    (λ (short : length reader.held < 188 * reader.packets).
    let all : next ≡ reader.held = is ∙ take_all (188 * reader.packets) reader.held (omega arith) in
    let same : length next ≡ length reader.held = ap length all in (
      omega (arith, fault.0),
      omega (arith, fault.0),
      short,
      ⊎_elim (λ (full : 188 * reader.packets ≤ length reader.held). absurd (omega arith))
          (λ late. ⊎_elim (λ (past : reader.max < reader.place + length reader.held). absurd (omega arith)) (λ over. over) late) enough,
      (refl, λ count has. fault.1 count (same ∙ has)),
    ))
    (λ (full : 188 * reader.packets ≤ length reader.held). absurd (fault.1 reader.packets (omega arith)))
    (cases_lt (length reader.held) (188 * reader.packets))

unsynced_here : (reader : StreamState) (next : List ℕ) (place number : ℕ) → place ≡ reader.place → next ≡ take (188 * reader.packets) reader.held → FirstFault (NoSync number) next → reader.place + length next ≤ reader.max
    → EndsHere (Some (NotTransport (NoSync (place / 188 + number)))) reader.packets reader.max reader.place reader.held reader.ended
unsynced_here reader next place number there is fault within =
    let counted : length next ≡ length (take (188 * reader.packets) reader.held) = ap length is in
    (omega arith, (number, ap (λ n. n / 188 + number) there, subst (FirstFault (NoSync number)) is fault))

pub fault_here : (reader : StreamState) (next : List ℕ) (fault : TsFault) → next ≡ take (188 * reader.packets) reader.held → FirstFault fault next → reader.place + length next ≤ reader.max → HoldsEnough reader
    → EndsHere (Some (NotTransport (fault_from reader.place fault))) reader.packets reader.max reader.place reader.held reader.ended
fault_here reader next (Ragged size) is fault within enough = ragged_here reader next reader.place size refl is fault within enough
fault_here reader next (NoSync number) is fault within enough = unsynced_here reader next reader.place number refl is fault within
