use Rattle.fg_prove.proofs.OneProof as proofs
use Rattle.fg_prove.proofs.laws.one_proof.Goals as goal

pub returns-clause-mades : goal.returns-clause-mades
returns-clause-mades c = proofs.one_list_of_cases c.one_case.ensures.case

pub returns-clause-records : goal.returns-clause-records
returns-clause-records c =
    proofs.one_proof c.media_datagrams_read_one_way.ensures.one_way c.parity_datagrams_read_one_way.ensures c.one_list_of_desks.ensures.one
    (proofs.one_list_of_cases c.one_case.ensures.case)
