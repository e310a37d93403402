-- What fields say, one after the other, as a loop over them goes.
use Rattle.std.proofs.Common.{◌≡◌, [], ◌∷◌, Option, Some, None, Result, Ok, Err, refl, sym, subst, ◌∙◌}
use Rattle.rpc_meta.specs.declared.fault.MetaFault.{MetaFault}
use Rattle.rpc_meta.specs.declared.fields.Field as fields
use Rattle.rpc_meta.specs.Meta.Wire.{Field, Fields, said}
use Rattle.rpc_meta.specs.Seen.{IsNext}

-- the fault after the last field
pub at_fault : {M : Type 0} (says : M → Field → Result M MetaFault) (m : M) (old : Fields) (total : Result M MetaFault) (e : MetaFault) → (old.list ≡ []) × (old.fault ≡ Some e)
    → said says m old.list old.fault ≡ total → total ≡ Err e
unfolding said
at_fault says m old total e h so_far = let one : said says m old.list old.fault ≡ Err e = rw (h.0, h.1) refl in sym so_far ∙ one

-- a field that is a fault for what it is to say
pub at_field : {M : Type 0} (says : M → Field → Result M MetaFault) (m : M) (f : Field) (old new : Fields) (total : Result M MetaFault) (e : MetaFault)
    → (old.list ≡ f ∷ new.list) × (old.fault ≡ new.fault) → says m f ≡ Err e
    → said says m old.list old.fault ≡ total → total ≡ Err e
unfolding said
at_field says m f old new total e h fails so_far = let one : said says m old.list old.fault ≡ Err e = rw (h.0, h.1, fails) refl in sym so_far ∙ one

-- a field, and those after it
pub goes_on : {M : Type 0} (says : M → Field → Result M MetaFault) (m next : M) (f : Field) (old new : Fields) (total : Result M MetaFault)
    → (old.list ≡ f ∷ new.list) × (old.fault ≡ new.fault) → says m f ≡ Ok next
    → said says m old.list old.fault ≡ total → said says next new.list new.fault ≡ total
unfolding said
goes_on says m next f old new total h here so_far =
    let one : said says m old.list old.fault ≡ said says next new.list new.fault = rw (h.0, h.1, here) refl in
    sym one ∙ so_far

-- the end of the message
pub at_end : {M : Type 0} (says : M → Field → Result M MetaFault) (m : M) (old : Fields) (total : Result M MetaFault) → (old.list ≡ []) × (old.fault ≡ None)
    → said says m old.list old.fault ≡ total → total ≡ Ok m
unfolding said
at_end says m old total h so_far =
    let one : said says m old.list old.fault ≡ Ok m = rw (h.0, h.1) refl in
    sym so_far ∙ one

-- what the next field is, known by its case
pub next_is : (old new : Fields) (o p : Option fields.Field) → o ≡ p → IsNext old (Ok o) new → IsNext old (Ok p) new
next_is old new o p e h = subst (λ x. IsNext old (Ok x) new) e h
