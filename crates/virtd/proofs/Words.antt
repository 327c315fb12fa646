-- Words ask for one thing at most.
use Rattle.std.proofs.Common.{◌≡◌, List, None, inl, inr}
use Rattle.daemon_words.specs.Commands.{Asks, Check, Demo, Stdio, Word, Words}
use Rattle.virtd.specs.Words.{AsksFor, IsDaemon, IsOffline}

-- words that ask for nothing ask for no daemon
pub none_is_daemon : (words : List Word) → Asks words None → IsDaemon words → ⊥
none_is_daemon words none (inl demo) = none Demo demo.0 demo.1
none_is_daemon words none (inr (directory, stdio)) = none (Stdio directory) stdio.0 stdio.1

-- nor for what nobody waits for
pub none_is_offline : (words : List Word) → Asks words None → IsOffline words → ⊥
none_is_offline words none (inl listed) = none Words listed.0 listed.1
none_is_offline words none (inr (directory, check)) = none (Check directory) check.0 check.1

-- words name one directory at most
pub one_directory : (words : List Word) (a b : Word) → AsksFor words (Stdio a) → AsksFor words (Stdio b) → a ≡ b
one_directory words a b first second = let x = first.1 in let y = second.1 in cc (x, y)
