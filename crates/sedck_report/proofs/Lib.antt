mod HtmlLemmas
mod Lines
mod After
mod Prefixes
