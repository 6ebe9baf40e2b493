use Rattle.std.proofs.Common.{[], ◌∷◌}
use Rattle.gos_tool.specs.demo.DemoFiles.{main_source, twice_source, pass_source, pair_source, id_source}
use Rattle.gos_tool.proofs.lemmas.demo.TextLemmas.{five_parts}
use Rattle.gos_tool.proofs.demo.files.add_sources.Goals as goal

pub returns : goal.returns
returns c =
    five_parts c.args.files.now.items (main_source ∷ []) (twice_source ∷ []) (pass_source ∷ []) (pair_source ∷ []) (id_source ∷ [])
    c.in_ok-add_file.ensures c.in_ok-add_file-2.ensures c.in_ok-add_file-3.ensures c.in_ok-add_file-4.ensures c.in_ok-add_file-5.ensures
