-- How long an image may be.
use Rattle.std.specs.Prelude.{ℕ, ◌+◌, ◌*◌}
use Rattle.nodes.specs.Limits.{max_nodes, max_links}

-- RULES 6.2: "A full image has 28 + 2M + N + 2N² bytes, M being the number of links.": of the most links and nodes
abbrev pub longest_image : ℕ
longest_image = 28 + 2 * max_links + max_nodes + 2 * (max_nodes * max_nodes)

-- and a links image, which has 10 + 2M
abbrev pub longest_links : ℕ
longest_links = 10 + 2 * max_links
