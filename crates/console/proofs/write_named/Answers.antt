use Rattle.std.proofs.Common.{◌++◌, codes}
use Rattle.console.specs.Answers.{GivenBy}
use Rattle.console.proofs.Named.{appends_more, named_more}
use Rattle.console.proofs.write_named.Goals as goal

pub loop-name-preserved : goal.loop-name-preserved
loop-name-preserved g c =
    let contents = g.W.Write.contents in
    let told = c.loop-name.invariant.told in
    let name = c.in-Some.name.bytes.items in
    let text = c.in_ok-text.text.now in
    record {
      can = tt;
      finite = tt;
      told = (
        told.0 ++ ((name ++ codes ": ") ++ text),
        named_more (GivenBy (goal.F-post g) c.args.answer) told.0 name text told.1 (c.as_slice.result.now, c.in_ok-text.ensures),
        appends_more (contents c.args.to.now) (contents c.loop-name.to) (contents c.write_all.new.self) told.0 ((name ++ codes ": ") ++ text) told.2
            (appends_more (contents c.loop-name.to) (contents c.write.new.self) (contents c.write_all.new.self) (name ++ codes ": ") text c.in_ok-write.ensures.bytes c.in_ok-write_all.ensures.bytes),
      );
    }
