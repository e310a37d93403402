-- Tags that are read and numbered one after the other, and the parts that they name.
use Rattle.std.proofs.Common.{◌≡◌, ℕ, zero, suc, ◌+◌, ◌-◌, ◌<◌, ◌≤◌, ◌==◌, ◌&&◌, ◌||◌, Bool, true, false, cond, List, [], ◌∷◌, ◌++◌, length, map, filter, drop, get_or, unwrap_or, Option, Some, None}
use Rattle.std.proofs.Common.{is_none, arith, refl, ap, sym, ◌∙◌, append_assoc}
use Rattle.std.specs.Prelude.{nat_le, nat_lt, Ok, Err}
use Rattle.rpc_model.specs.declared.chan.Chan.TheVariants as chan
use Rattle.rpc_model.specs.declared.script.Cause.TheVariants.{MissingPart, TooMany}
use Rattle.rpc_model.specs.Before.{Before}
use Rattle.std.proofs.lemmas.Bool.Decides.{nat_tests}
use Rattle.std.proofs.lemmas.List.{at_drop_more, at_drop_all}
use Rattle.rpc_model.specs.declared.chan.PartChan.{PartChan}
use Rattle.rpc_model.specs.declared.chan.Tag.{Tag}
use Rattle.rpc_model.specs.declared.kinds.MapKind.{MapKind}
use Rattle.rpc_model.specs.declared.kinds.MergeKind.{MergeKind}
use Rattle.rpc_model.specs.Plan.{servers_of}
use Rattle.rpc_model.specs.Faults.{or_missing, missing_from}
use Rattle.rpc_model.specs.Words.{index_of}
use Rattle.rpc_model.specs.ChannelWords.{NamedTag}
use Rattle.rpc_model.specs.ChannelLines.{mention, mention_all, names_of, tags_of, with_chan, with_part}
use Rattle.call_script.specs.declared.channel_words.NamedTag.{NamedTag as CodeTag}
use Rattle.call_script.specs.Named.{named_all, has_tag, lacks_none}
use Rattle.call_script.proofs.Servers.{mention_all_grows, mention_some}

-- ---- one more server

pub tagged_next : (servers : List (List ℕ)) (named : List CodeTag) (i : ℕ) (d : CodeTag) → i < length named
    → mention_all servers (names_of (named_all (drop i named))) ≡ mention_all (mention servers (get_or named i d).name.now) (names_of (named_all (drop (i + 1) named)))
tagged_next servers named i d h = at_drop_more (λ (ts : List CodeTag). mention_all servers (names_of (named_all ts))) named i d h

pub tagged_all : (servers : List (List ℕ)) (named : List CodeTag) (i : ℕ) → length named ≤ i → mention_all servers (names_of (named_all (drop i named))) ≡ servers
tagged_all servers named i le = at_drop_all (λ (ts : List CodeTag). mention_all servers (names_of (named_all ts))) named i le

pub tagged_over : (servers : List (List ℕ)) (named : List CodeTag) (i : ℕ) (d : CodeTag) → i < length named → false ≡ nat_le (length (mention servers (get_or named i d).name.now)) 16
    → false ≡ nat_le (length (mention_all servers (names_of (named_all (drop i named))))) 16
tagged_over servers named i d h over =
    rw (tagged_next servers named i d h) (let more = mention_all_grows (mention servers (get_or named i d).name.now) (names_of (named_all (drop (i + 1) named))) in
    grind (arith, nat_tests, over, more))

pub tagged_some : (servers : List (List ℕ)) (named : List CodeTag) → 1 ≤ length named → 1 ≤ length (mention_all servers (names_of (named_all named)))
tagged_some servers [] h = absurd (omega arith)
tagged_some servers (t ∷ named) h = let one = mention_some servers t.name.now in let more = mention_all_grows (mention servers t.name.now) (names_of (named_all named)) in omega (arith, one, more)

-- ---- one more number

pub tag_numbered : (servers : List (List ℕ)) (named : List CodeTag) (tags : List Tag) (i : ℕ) (d : CodeTag) → i < length named
    → (tags ++ (record { server = unwrap_or (index_of servers (get_or named i d).name.now) 0; part = (get_or named i d).part; of = (get_or named i d).of }) ∷ [])
    ++ tags_of servers (named_all (drop (i + 1) named)) ≡ tags ++ tags_of servers (named_all (drop i named))
tag_numbered servers named tags i d h =
    append_assoc tags _ (tags_of servers (named_all (drop (i + 1) named))) ∙ sym (at_drop_more (λ (ts : List CodeTag). tags ++ tags_of servers (named_all ts)) named i d h)

-- ---- the parts

module _ (servers : List (List ℕ)) (named : List NamedTag) (parts : ℕ) where
  some-server : (part : ℕ) (later : Option ℕ) (tags : List NamedTag) → or_missing part (servers_of (tags_of servers tags) parts part) later ≡ cond (has_tag tags parts part) later (Some part)
  some-server part later [] = refl
  some-server part later (t ∷ tags) = by (t.part == part && t.of == parts) (some-server part later tags)
    where
      by : (b : Bool) → or_missing part (servers_of (tags_of servers tags) parts part) later ≡ cond (has_tag tags parts part) later (Some part)
          → or_missing part (map (λ (x : Tag). x.server)
          (cond b (record { server = unwrap_or (index_of servers t.name) 0; part = t.part; of = t.of } ∷ filter (λ (x : Tag). x.part == part && x.of == parts)
          (tags_of servers tags)) (filter (λ (x : Tag). x.part == part && x.of == parts) (tags_of servers tags)))) later
          ≡ cond (b || has_tag tags parts part) later (Some part)
      by true h = refl
      by false h = h

  -- No part is missing where each has a tag.
  pub none_missing : (chan : PartChan MapKind MergeKind) → chan.tags ≡ tags_of servers named → chan.parts ≡ parts → (first count : ℕ)
      → is_none (missing_from chan first count) ≡ lacks_none named first count parts
  none_missing chan tags are first zero = refl
  none_missing chan tags are first (suc count) =
      ap is_none (ap (λ (ts : List Tag). or_missing first (servers_of ts chan.parts first) (missing_from chan (first + 1) count)) tags
      ∙ ap (λ (n : ℕ). or_missing first (servers_of (tags_of servers named) n first) (missing_from chan (first + 1) count)) are ∙ some-server first (missing_from chan (first + 1) count) named)
      ∙ by (has_tag named parts first) (none_missing chan tags are (first + 1) count)
    where
      by : (b : Bool) → is_none (missing_from chan (first + 1) count) ≡ lacks_none named (first + 1) count parts
          → is_none (cond b (missing_from chan (first + 1) count) (Some first)) ≡ (b && lacks_none named (first + 1) count parts)
      by true h = h
      by false h = refl

  left : (at count : ℕ) → at < count → count - at ≡ suc (count - (at + 1))
  left at count less = omega (arith, less)

  none-left : (at count : ℕ) → count ≤ at → count - at ≡ 0
  none-left at count le = omega (arith, le)

  pub part_next : (part count : ℕ) → part < count → lacks_none named part (count - part) parts ≡ (has_tag named parts part && lacks_none named (part + 1) (count - (part + 1)) parts)
  part_next part count less = ap (λ n. lacks_none named part n parts) (left part count less)

  pub part_end : (part count : ℕ) → count ≤ part → lacks_none named part (count - part) parts ≡ true
  part_end part count le = ap (λ n. lacks_none named part n parts) (none-left part count le)

-- ---- what a partition channel's line comes to

is-none : (o : Option ℕ) → is_none o ≡ true → o ≡ None
is-none None h = refl
is-none (Some x) h = absurd cc

module _ (before : Before) (name : List ℕ) (named : List NamedTag) (part : PartChan MapKind MergeKind) (servers : List (List ℕ)) (tags : part.tags ≡ tags_of servers named) where
  missing-is : is_none (missing_from part 0 part.parts) ≡ lacks_none named 0 part.parts part.parts
  missing-is = none_missing servers named part.parts part tags refl 0 part.parts

  pub part_whole : lacks_none named 0 part.parts part.parts ≡ true → missing_from part 0 part.parts ≡ None
  part_whole all = is-none (missing_from part 0 part.parts) (missing-is ∙ all)

  pub part_missing : lacks_none named 0 part.parts part.parts ≡ false → with_part before name named part ≡ Err MissingPart
  part_missing none = rw (missing-is, none) refl

  pub part_full : lacks_none named 0 part.parts part.parts ≡ true → nat_lt (length before.names) 1000 ≡ false → with_part before name named part ≡ Err TooMany
  part_full all full = rw (missing-is, all, full) refl

  pub part_over : lacks_none named 0 part.parts part.parts ≡ true → nat_lt (length before.names) 1000 ≡ true
      → nat_le (length (mention_all before.servers (names_of named))) 16 ≡ false → with_part before name named part ≡ Err TooMany
  part_over all room over = rw (missing-is, all, room, over) refl

  pub part_taken : lacks_none named 0 part.parts part.parts ≡ true → nat_lt (length before.names) 1000 ≡ true → nat_le (length (mention_all before.servers (names_of named))) 16 ≡ true
      → with_part before name named part ≡ Ok (with_chan (record before { servers = mention_all before.servers (names_of named) }) name (chan.Part part))
  part_taken all room servers_fit = rw (missing-is, all, room, servers_fit) refl
