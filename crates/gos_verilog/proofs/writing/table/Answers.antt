use Rattle.std.proofs.Common.{length, arith, refl, ◌∙◌}
use Rattle.std.proofs.lemmas.Option.{slice_get_read}
use Rattle.gos_verilog.proofs.TableLemmas.{leads_more}
use Rattle.gos_verilog.proofs.writing.table.Goals as goal

pub loop-k-preserved : goal.loop-k-preserved
loop-k-preserved c =
    let nets = c.args.nets.now in
    let told = c.note.ensures in
    record {
      long = told.length ∙ c.loop-k.invariant.long;
      leads =
          leads_more nets c.index-nets-k.result c.loop-k.k c.loop-k.table.items c.note.new.table.items
          (slice_get_read nets (length nets) c.loop-k.k c.index-nets-k.result refl c.loop-k-test.true c.index-nets-k.is) told.length told.noted told.others told.output
          c.loop-k.invariant.leads;
    }

pub returns-clause-leads : goal.returns-clause-leads
returns-clause-leads c j i below within feeds = c.loop-k.invariant.leads j i (omega (arith, below, c.loop-k-test.false)) within feeds
