-- The bytes that an output has accepted for its writer.
use Rattle.std.specs.Prelude.{ℕ, List}
use Rattle.std.specs.declared.option.Option.{Option}
use Rattle.std.specs.Io.Buffered.{writer_contents}
use Rattle.std.specs.Io.KnownBytes.{append_known}
use Rattle.kodliwe_program.specs.declared.coalescing.CoalescingOutput.{CoalescingOutput}

-- The contents of the buffered writer, followed by the held bytes. They are known if the writer's contents are.
abbrev pub output_contents : {W : Type 0} → (W → Option (List ℕ)) → CoalescingOutput W → Option (List ℕ)
output_contents contents output = append_known (writer_contents contents output.buffer) output.held
