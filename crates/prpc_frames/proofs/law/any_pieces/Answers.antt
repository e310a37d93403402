use Rattle.prpc_frames.proofs.Pieces.{pieces_are, cut, fed_before}
use Rattle.prpc_frames.proofs.law.any_pieces.Goals as goal

pub returns-clause-pieces : goal.returns-clause-pieces
returns-clause-pieces c = pieces_are

pub returns-clause-cut : goal.returns-clause-cut
returns-clause-cut c = cut

pub returns-clause-handed_out : goal.returns-clause-handed_out
returns-clause-handed_out c = fed_before
