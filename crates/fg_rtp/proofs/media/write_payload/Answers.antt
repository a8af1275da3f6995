use Rattle.std.proofs.Common.{◌≡◌, ℕ, List, length, refl, ◌∙◌}
use Rattle.fg_rtp.specs.Header.{plain_header}
use Rattle.fg_rtp.proofs.PieceLemmas.{written_behind}
use Rattle.fg_rtp.proofs.media.write_payload.Goals as goal

pub returns-clause-written : goal.returns-clause-written
returns-clause-written c =
    let header : List ℕ = plain_header 33 c.args.seq c.args.ts c.args.ssrc in
    let payload : List ℕ = c.args.payload.now in
    let first : c.copy_from_slice.new.self ≡ header = c.copy_from_slice.ensures.after ∙ c.header_bytes-header.ensures in
    written_behind header payload c.args.into.now c.copy_from_slice.new.self c.copy_from_slice-2.new.self 12 (length payload) first c.copy_from_slice-2.ensures.after refl
