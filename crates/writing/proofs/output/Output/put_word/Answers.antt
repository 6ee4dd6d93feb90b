-- `put_word` copies the word into the output. Assumes nothing.
use mathlib.Core.Path.{refl, ◌∙◌}
use Prim.Native.Nat.{◌+◌, ◌-◌}
use native.Mathlib.Omega.{arith}
use lib.ListN.{length}
use Rattle.std.proofs.lemmas.Slice.{put_mid-paste}
use Rattle.writing.proofs.Placed.{pasted}
use Rattle.writing.proofs.output.Output.put_word.Goals as goal

pub returns : goal.returns
returns c =
    let o = c.args.self.now in
    let at = o.length in
    let w = c.args.word.now in
    record {
      lent = refl;
      puts = record {
        bytes = put_mid-paste at (at + length w - at) o.bytes.now c.copy_from_slice.new.self w (length w) c.copy_from_slice.ensures.after (omega arith) refl
            ∙ pasted o.bytes.now at w (length w) refl c.requires;
        past = refl;
      };
    }
