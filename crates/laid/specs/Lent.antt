-- What stands on a page that is lent.
use Rattle.laid.specs.Laid as laid
use Rattle.laid.specs.declared.Page.{Page}

abbrev pub page_of : Page → laid.Page
page_of p = laid.page p.bytes.now p.at
