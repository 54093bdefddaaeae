use Rattle.std.proofs.Common.{length, rules}
use Rattle.planfile.proofs.Concluding.{answer_here, plan_here, blocks_here}
use Rattle.planfile.proofs.Ends.{ends_here}
use Rattle.planfile.proofs.reading.read.Goals as goal

pub returns-in-Ok : goal.returns-in-Ok
returns-in-Ok c =
    let places = length c.args.blocks.now in
    let file = c.args.file.now in
    let list = c.read_whole.new.list in
    let whole = c.in-Ok.whole in
    let read = c.in-Ok.ensures.read in
    record {
      answer = answer_here places file list whole read.0;
      ends = ends_here places file list whole read.0 read.1 (λ i. (c.type_inv.file i).fits);
      plan = plan_here places file list whole read.0;
      list = blocks_here places file list c.fill.new.self whole read.0 c.in-Ok.ensures.size (c.fill.ensures.after (λ block same. search rules));
      law = read.1;
    }
