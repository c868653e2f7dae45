-- The reverse of an operation has its place among the tags, and the two writes cover the operation and its reverse alone.
use Rattle.std.proofs.Common.{◌≡◌, length, arith, rules}
use Rattle.tagged.specs.TagsLemmas.{written_both}
use Rattle.tagged.proofs.tagged.Tagged.put.Goals as goal

pub bounds-self-reverse : goal.bounds-self-reverse
bounds-self-reverse g c =
    let lawful = g.met.P.Plant.lawful c.args.self.now.below in
    omega (arith, lawful.reverse_within c.args.operation c.requires)

pub returns : goal.returns
returns g c =
    let lawful = g.met.P.Plant.lawful c.args.self.now.below in
    let long : length c.args.self.now.tags ≡ 2048 = omega arith in
    record {
      covered = written_both (g.P.Plant.meaning c.args.self.now.below) c.args.self.now.tags c.args.operation c.reverse-reverse.result c.args.on lawful long c.requires c.reverse-reverse.ensures;
      same = search rules;
    }
