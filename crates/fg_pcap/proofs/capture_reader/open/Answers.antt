-- The file header was read, or is refused.
use Rattle.std.proofs.Common.{◌≡◌, inl, inr, ◌∙◌, true, false, length, take, sym, ap, subst, arith}
use Rattle.std.specs.Io.KnownBytes.{IsAtEnd}
use Rattle.fg_io.specs.InputBuffer.{InputState}
use Rattle.fg_pcap.specs.Capture.{IsFileHeader, BreaksAt}
use Rattle.fg_pcap.proofs.Standing.{read_start, read_passed, bounded_passed, given_at_start, stands_first, refuses_field, refuses_short, refuses_long}
use Rattle.fg_pcap.proofs.capture_reader.open.Goals as goal

pub read_file_header-requires : goal.read_file_header-requires
read_file_header-requires g c =
    let ahead = rw c.in-Whole.is at c.in_ok-fill.ensures.tells in
    omega (arith, ahead.0, ap length c.held.ensures.value)

pub returns-in-Ok-clause-opens : goal.returns-in-Ok-clause-opens
returns-in-Ok-clause-opens g c =
    let ahead = rw c.in-Whole.is at c.in_ok-fill.ensures.tells in
    let format = c.in-Ok.format in
    let is : IsFileHeader format.order format.unit (take 24 c.fill.new.self.held) = subst (λ t. IsFileHeader format.order format.unit (take 24 t)) c.held.ensures.value c.in-Ok.ensures.found in
    stands_first format c.args.input.now c.fill.new.self c.step.new.self _ _ c.requires.start c.requires.empty c.in_ok-fill.ensures.takes c.in_ok-fill.ensures.same ahead.0 ahead.1 c.step.ensures is

pub returns-in-Ok-clause-read : goal.returns-in-Ok-clause-read
returns-in-Ok-clause-read g c =
    let ahead = rw c.in-Whole.is at c.in_ok-fill.ensures.tells in
    read_passed c.fill.new.self c.step.new.self 24 _ _ ahead.0 c.step.ensures
    (read_start c.args.input.now c.fill.new.self _ _ c.requires.start c.requires.empty c.in_ok-fill.ensures.takes c.in_ok-fill.ensures.same)

pub returns-in-Ok-clause-bounded : goal.returns-in-Ok-clause-bounded
returns-in-Ok-clause-bounded g c =
    let ahead = rw c.in-Whole.is at c.in_ok-fill.ensures.tells in
    bounded_passed c.fill.new.self c.step.new.self 24 ahead.0 c.step.ensures c.in_ok-fill.ensures.bounded

pub returns-in-Err-clause-refuses : goal.returns-in-Err-clause-refuses
returns-in-Err-clause-refuses g c =
    let ahead = rw c.in-Whole.is at c.in_ok-fill.ensures.tells in
    let breaks : BreaksAt (take 24 c.fill.new.self.held) c.in-Err.place = subst (λ t. BreaksAt (take 24 t) c.in-Err.place) c.held.ensures.value c.in-Err.ensures.breaks in
    refuses_field c.fill.new.self.max c.in-Err.place c.fill.new.self.held _ _ (given_at_start c.args.input.now c.fill.new.self.held _ _ c.requires.empty c.in_ok-fill.ensures.takes) ahead.0
    (omega (arith, ahead.1)) breaks

pub returns-in-EndsHere-clause-refuses : goal.returns-in-EndsHere-clause-refuses
returns-in-EndsHere-clause-refuses g c =
    let ahead = rw c.in-EndsHere.is at c.in_ok-fill.ensures.tells in
    let end : IsAtEnd (g.S.Source.left c.fill.new.from) = elim (c.in_ok-fill.ensures.at_end ahead.1) [ inl ended ↦ let no : false ≡ true = sym c.requires.reading.going ∙ ended in absurd cc | inr end ↦ end ] in
    refuses_short c.fill.new.self.max 0 c.fill.new.self.held _ _ (given_at_start c.args.input.now c.fill.new.self.held _ _ c.requires.empty c.in_ok-fill.ensures.takes) end
    (ap length (sym ahead.0)) (omega (arith, ap length ahead.0)) (omega (arith, ap length ahead.0))

pub returns-in-EndsInside-clause-refuses : goal.returns-in-EndsInside-clause-refuses
returns-in-EndsInside-clause-refuses g c =
    let ahead = rw c.in-EndsInside.is at c.in_ok-fill.ensures.tells in
    let end : IsAtEnd (g.S.Source.left c.fill.new.from) = elim (c.in_ok-fill.ensures.at_end ahead.2) [ inl ended ↦ let no : false ≡ true = sym c.requires.reading.going ∙ ended in absurd cc | inr end ↦ end ] in
    refuses_short c.fill.new.self.max (length c.held-in-EndsInside.result.now) c.fill.new.self.held _ _ (given_at_start c.args.input.now c.fill.new.self.held _ _ c.requires.empty c.in_ok-fill.ensures.takes) end
    (ap length c.held-in-EndsInside.ensures.value) ahead.1 (omega (arith, ahead.3))

pub returns-in-PastLimit-clause-refuses : goal.returns-in-PastLimit-clause-refuses
returns-in-PastLimit-clause-refuses g c =
    let ahead = rw c.in-PastLimit.is at c.in_ok-fill.ensures.tells in
    let start : c.fill.new.self.place ≡ 0 = ap (λ (t : InputState). t.place) c.in_ok-fill.ensures.same ∙ c.requires.start in
    refuses_long c.fill.new.self.max c.fill.new.self.held _ _ (given_at_start c.args.input.now c.fill.new.self.held _ _ c.requires.empty c.in_ok-fill.ensures.takes)
    (omega (arith, ahead.0, start)) (omega (arith, ahead.1, start))
