-- Whether a file that is to be written is one that a build names.
--
-- Read first: BuildFile of gos_link. The build file itself is none of these.
use Rattle.std.specs.Prelude.{◌||◌, Bool, false, Option, Some, None}
use Rattle.std.specs.List.{list_any}
use Rattle.std.specs.Str.{bytes_eq}
use Rattle.gos_lex.specs.Lines.{Word}
use Rattle.gos_link.specs.declared.build.Build.{Build}
use Rattle.gos_link.specs.declared.build.Instance.{Instance}

-- the instance has the file, as its source or as its object
abbrev pub has_file : Word → Instance → Bool
has_file file i = bytes_eq i.source file || bytes_eq i.object file

-- the build names the file: an instance has it, or it is another of its files
abbrev pub is_named : Build → Word → Bool
is_named b file =
    list_any (has_file file) b.instances.items
    || (bytes_eq b.net file || (bytes_eq b.verilog file || (bytes_eq b.pulses file || bytes_eq b.trace file)))

-- so it names the file that is to be written, if one is
abbrev pub is_taken : Build → Option Word → Bool
is_taken b None = false
is_taken b (Some file) = is_named b file
