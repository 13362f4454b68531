mod AtRestRows
