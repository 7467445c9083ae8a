-- The texts about the program.
use Rattle.std.specs.Prelude.{ℕ, List}
use Rattle.kodliwe_program.specs.declared.about.About.{About}
use Rattle.kodliwe_program.specs.declared.about.About.TheVariants.{Help, Version, Manual, Completions}
use Rattle.kodliwe_program.specs.declared.about.Shell.TheVariants.{Bash, Zsh, Fish}
use Rattle.kodliwe_program.specs.declared.embedded.TheConstants.{MANUAL, BASH, ZSH, FISH}
use Rattle.kodliwe_program.specs.declared.help.TheConstants.{HELP}
use Rattle.kodliwe_program.specs.declared.version.TheConstants.{VERSION}

-- what an option prints
abbrev pub about_text : About → List ℕ
about_text Help = HELP.now
about_text Version = VERSION.now
about_text Manual = MANUAL.now
about_text (Completions Bash) = BASH.now
about_text (Completions Zsh) = ZSH.now
about_text (Completions Fish) = FISH.now
