use Rattle.std.proofs.Common.{◌≡◌, ap}
use Rattle.std.proofs.lemmas.Result.{IfOk-weaker}
use Rattle.fg_io.proofs.FaultLemmas.{err_more}
use Rattle.fg_encode.specs.StreamReader.{StreamState}
use Rattle.fg_encode.proofs.Encodings.{breaks_as, encoded_as, new_here}
use Rattle.fg_encode.proofs.ReadLemmas.{read_of}
use Rattle.fg_encode.proofs.encoding.encode.Goals as goal

pub walk-requires : goal.walk-requires
walk-requires g c =
    let reader = c.in_ok-reader.ensures in
    let work = c.in_ok-encoding.ensures in
    let left = g.S.Source.left c.args.input.now in
    (left, new_here c.in_ok-encoding.encoding c.in_ok-reader.reader left c.args.settings.now c.args.max c.requires.limit reader.new (reader.stands left) work.settings work.taken work.trace)

pub returns : goal.returns
returns g c =
    let reader = c.in_ok-reader.ensures in
    let work = c.in_ok-encoding.ensures in
    let found = c.in_ok-encoding.encoding.encoder.settings in
    let limit = c.in_ok-reader.reader.max in
    let left = g.S.Source.left c.args.input.now in
    let max : limit ≡ c.args.max = ap (λ (t : StreamState). t.max) reader.new in
    let new = new_here c.in_ok-encoding.encoding c.in_ok-reader.reader left c.args.settings.now c.args.max c.requires.limit reader.new (reader.stands left) work.settings work.taken work.trace in
    let all = encoded_as found c.args.settings.now limit c.args.max c.walk.result left _ _ _ work.settings max (IfOk-weaker c.walk.result _ _ (λ ending h. h left new) c.walk.ensures.whole) in
    let broken = breaks_as found c.args.settings.now limit c.args.max c.walk.result left _ _ _ work.settings max (err_more c.walk.result _ _ (λ h. h left new) c.walk.ensures.part) in
    record {
      whole = IfOk-weaker c.walk.result _ _ (λ ending h. h.encodes) all;
      all_read = IfOk-weaker c.walk.result _ _ (λ ending h. h.at_end) all;
      reads = read_of c.args.max c.walk.result left _ (IfOk-weaker c.walk.result _ _ (λ ending h. h.read) all) (err_more c.walk.result _ _ (λ h. h.1) broken);
      part = err_more c.walk.result _ _ (λ h. h.0) broken;
      faults = c.walk.ensures.faults;
      fixed = c.walk.ensures.fixed;
    }
