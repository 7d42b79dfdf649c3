-- The kind of each byte: ( ) space line-feed a..z 0 1..9 and all others.
use Rattle.std.specs.Prelude.{ℕ, cond, ◌&&◌, ◌==◌, nat_le}
use Rattle.grammar.specs.declared.kind.Kind.{Kind}
use Rattle.grammar.specs.declared.kind.Kind.TheVariants.{Open, Close, Space, LineFeed, Letter, Zero, Digit, Other}

abbrev pub kind : ℕ → Kind
kind c =
    cond (c == 40) Open
    (cond (c == 41) Close
    (cond (c == 32) Space
    (cond (c == 10) LineFeed
    (cond (nat_le 97 c && nat_le c 122) Letter
    (cond (c == 48) Zero
    (cond (nat_le 49 c && nat_le c 57) Digit Other))))))
