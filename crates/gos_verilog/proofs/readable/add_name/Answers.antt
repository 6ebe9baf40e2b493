use Rattle.gos_netcheck.proofs.NameLemmas.{put_name}
use Rattle.gos_verilog.proofs.readable.add_name.Goals as goal

pub returns-clause-names : goal.returns-clause-names
returns-clause-names c is_new b = put_name (λ k. k.now) c.args.names.now c.insert.new.self c.args.name c.in_ok-insert.field-0 c.in_ok-insert.ensures.keys is_new b
