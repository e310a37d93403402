use Rattle.std.proofs.Common.{ap, ◌∙◌, nat_eq}
use Rattle.std.specs.Map.{lookup}
use Rattle.link_core.specs.Kept.{waiting}
use Rattle.link_core.proofs.Waiting.{same, absent}
use Rattle.link_core.proofs.entries.forget.Goals as goal

pub returns-clause-same : goal.returns-clause-same
returns-clause-same c = ap waiting c.clear_out.ensures.left ∙ same c.args.entries.now.entries

pub returns-clause-absent : goal.returns-clause-absent
returns-clause-absent c = ap (lookup (nat_eq c.args.id)) c.clear_out.ensures.left ∙ absent c.args.id c.args.entries.now.entries c.requires.unknown
