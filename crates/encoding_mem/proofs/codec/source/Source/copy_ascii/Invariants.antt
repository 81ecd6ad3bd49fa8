use Rattle.std.proofs.Common.{◌≡◌, ◌+◌, ◌-◌, ◌≤◌, ◌++◌, length, take, drop}
use Rattle.std.specs.Str.{IsAscii}
use Rattle.encoding_mem.proofs.codec.source.Source.copy_ascii.Given as goal

abbrev pub invariant-characters : goal.invariant-characters
invariant-characters g l = record {
  same : g.Self.Source.all l.self ≡ g.Self.Source.all l.initial.self;
  within : l.copied ≤ length l.dst;
  size : length l.dst ≡ length l.initial.dst;
  behind : drop l.copied l.dst ≡ drop l.copied l.initial.dst;
  ascii : IsAscii (take l.copied l.dst);
  offset : g.Self.Source.offset l.self ≡ g.Self.Source.offset l.initial.self + l.copied;
  text : g.Self.Source.text (drop (g.Self.Source.offset l.initial.self) (g.Self.Source.all l.initial.self))
      ≡ take l.copied l.dst ++ g.Self.Source.text (drop (g.Self.Source.offset l.self) (g.Self.Source.all l.self));
}

abbrev pub decreases-characters : goal.decreases-characters
decreases-characters g l = length l.dst - l.copied
