-- Of the same files a command makes the same.
use Rattle.std.proofs.Common.{[], refl}
use Rattle.gos_link.specs.Answers.{IsOneBuild}
use Rattle.gos_tool.specs.objects.Repeated.{CheckTellsOne, CompileMakesOne}
use Rattle.gos_tool.specs.circuits.Repeated.{LinkMakesOne}
use Rattle.gos_tool.specs.simulate.Repeated.{SimMakesOne}
use Rattle.gos_tool.specs.build.Repeated.{BuildMakesOne}
use Rattle.gos_tool.specs.demo.DemoFiles.{build_file}
use Rattle.gos_tool.specs.demo.Demo.{with_demo}
use Rattle.gos_tool.specs.explained.Repeated.{VerifyMakesOne}
use Rattle.gos_tool.specs.Command.{Check, Compile, Link, Sim, Build, Demo, Tidy, Gates, Explain, Verify}
use Rattle.gos_tool.specs.Repeated.{CommandMakesOne}
use Rattle.gos_tool.proofs.lemmas.demo.RepeatedLemmas.{demo_agrees, demo_then_build}

pub command_makes_one : IsOneBuild → CheckTellsOne → CompileMakesOne → LinkMakesOne → SimMakesOne → BuildMakesOne → VerifyMakesOne → CommandMakesOne
command_makes_one one_build check compile link sim build verify (Check source) files others new other report told decided agree one two =
    (record { texts = []; named = refl; one = one.0; two = two.0 }, check files others source report told agree one.1 two.1)
command_makes_one one_build check compile link sim build verify (Compile source object) files others new other report told decided agree one two =
    compile files others source object new other report told agree one two
command_makes_one one_build check compile link sim build verify (Link own) files others new other report told decided agree one two =
    link files others own new other report told agree one two
command_makes_one one_build check compile link sim build verify (Sim net pulses trace) files others new other report told decided agree one two =
    sim files others net pulses trace new other report told agree one two
command_makes_one one_build check compile link sim build verify (Build own) files others new other report told decided agree one two =
    build files others own new other report told agree one two
command_makes_one one_build check compile link sim build verify (Demo levels) files others new other report told decided agree one two =
    let made =
    build (with_demo levels files) (with_demo levels others) (build_file levels).name new other report told (demo_agrees one_build levels files others decided)
    one.built two.built in
    (demo_then_build levels files others new other made.0, made.1)
command_makes_one one_build check compile link sim build verify (Tidy net out) files others new other report told decided agree one two = absurd decided
command_makes_one one_build check compile link sim build verify (Gates net out) files others new other report told decided agree one two = absurd decided
command_makes_one one_build check compile link sim build verify (Explain own moves) files others new other report told decided agree one two = absurd decided
command_makes_one one_build check compile link sim build verify (Verify own moves) files others new other report told decided agree one two =
    verify files others own moves new other report told agree one two
