use Rattle.std.proofs.Common.{ap, sym, ◌∙◌}
use Rattle.call_tree.specs.Places.{firsts}
use Rattle.call_tree.specs.Shown.{states_of}
use Rattle.call_tree.proofs.Adding.{places-push}
use Rattle.call_tree.proofs.nodes.SelNode.add.Goals as goal

pub returns-clause-sound : goal.returns-clause-sound
returns-clause-sound g c =
    record {
      places = c.in_ok-push.ensures.items ∙ places-push c.args.self.now.kids.items c.args.tree c.args.self.now.firsts.items c.args.place c.requires.sound.places c.requires.place
          ∙ sym (ap (λ ss. firsts 1 (states_of ss)) c.in_ok-push-2.ensures.items);
    }
