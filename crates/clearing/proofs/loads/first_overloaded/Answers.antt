use Rattle.std.proofs.Common.{rules}
use Rattle.std.proofs.lemmas.Iterator.{first_from_find}
use Rattle.bounded.specs.Lists.{list_of}
use Rattle.clearing.specs.Examined.{Holds}
use Rattle.clearing.proofs.Searching.{counts, first_from}
use Rattle.clearing.proofs.loads.first_overloaded.Goals as goal

pub returns : goal.returns
returns g c =
    let accepts = g.C.CoreTest.accepts c.args.test.now in
    let ps = list_of c.args.placed.now in
    let road = counts c.args.cores c.new.result c.new.ensures.start c.new.ensures.end c.new.ensures.exhausted in
    first_from accepts c.args.cores ps c.find.result
    (first_from_find _ _ c.find.result (λ k. Holds accepts ps k → ⊥) (Holds accepts ps) c.find.ensures.ran road (λ x q k. search rules) (λ x q k. search rules))
