use Rattle.std.proofs.Common.{◌≡◌, take, string_bytes}
use Rattle.run.specs.Texts.{text_of}
use Rattle.run.proofs.printing.text.Given as goal

abbrev pub invariant-loop-reply : goal.invariant-loop-reply
invariant-loop-reply l = string_bytes l.text ≡ text_of (take l.reply-index l.replies)
