-- A bad line would go against the law of generated scripts.
use Rattle.std.proofs.Common.{◌≡◌, ◌∙◌, ◌++◌, List, ℕ, Result, Ok, Err, ap, sym}
use Rattle.rpc_model.specs.declared.script.Mode.TheVariants.{Sim}
use Rattle.rpc_model.specs.Script.{script}
use Rattle.script_gen.specs.Generator.{generated}
use Rattle.brpc_top.proofs.generated.generated_script.Goals as goal

clash : {X Y : Type 0} (r : Result X Y) (x : X) (y : Y) → r ≡ Ok x → r ≡ Err y → ⊥
clash r x y p q = cc

pub unreachable-requires : goal.unreachable-requires
unreachable-requires c =
    let made : c.generate.new.to.items ≡ generated c.args.count = c.in_ok-generate.ensures.text ∙ ap (λ (front : List ℕ). front ++ generated c.args.count) c.new-text.ensures.items in
    let text : c.deref.result.now ≡ generated c.args.count = c.deref.ensures.value ∙ made in
    let said = rw c.in-Err-Bad.field-0-is at c.in-Err-Bad.ensures in
    let law = c.generated_scripts_are_accepted.ensures c.args.count c.requires.0 c.requires.1 in
    clash (script Sim (generated c.args.count)) law.0 (c.in-Err-Bad.field-0-0, c.in-Err-Bad.field-0-1) law.1 (ap (λ (bytes : List ℕ). script Sim bytes) (sym text) ∙ said.script)
